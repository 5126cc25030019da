-- The records of a block, of which the k-th is the k-th row of its lists.
use Rattle.std.proofs.Common.{◌≡◌, ◌≢◌, ℕ, ◌+◌, ◌<◌, ℤ, pos, false, List, [], ◌∷◌, ◌++◌, length, map, get_or, set, take, Option, None, refl, sym, ap, subst, ◌∙◌, arith, length-set, length-take}
use Rattle.std.specs.Prelude.{All}
use Rattle.std.specs.List.{range_with_len}
use Rattle.std.proofs.lemmas.List.{length-map, get_or-map, get_or-set_same, get_or-set_other, get_or-take, ext_get_or, get_or_default}
use Rattle.std.proofs.lemmas.List.FromFn.{map-range_with_len_more, length-map-range_with_len, get_or-map-range_with_len}
use Rattle.flk_dat.specs.Records.{DataRecord, Rows, record_at, no_record, HasWidth, AreRows}
use Rattle.flk_dat.specs.Blocks.{row_in, row_of, rows_of, AreLaid, HavePlaces, ChangesRow}
use Rattle.flk_dat.specs.Heads.{headed}
use Rattle.flk_dat.specs.declared.columns.Columns.{Columns}
use Rattle.flk_dat.specs.declared.head.Head.{Head}
use Rattle.flk_dat.proofs.ColumnLemmas.{row_length, row_at, places_kept}

-- ---- the records

pub rows_count : (count : ℕ) (c : Columns) → length (rows_of count c) ≡ count
unfolding rows_of
rows_count count c = length-map-range_with_len (row_of c) 0 count

pub rows_at : (count : ℕ) (c : Columns) (k : ℕ) → k < count → record_at (rows_of count c) k ≡ row_of c k
unfolding rows_of
rows_at count c k lt = get_or-map-range_with_len (row_of c) 0 count k k no_record lt (omega arith)

pub no_rows : (c : Columns) → rows_of 0 c ≡ []
unfolding rows_of
no_rows c = refl

-- each record has a value for each channel
pub rows_width : (count : ℕ) (c : Columns) → All (HasWidth (length c.analog.items) (length c.digital.items)) (rows_of count c)
rows_width count c = λ k none lt.
    let below : k < count = omega (arith, lt, rows_count count c) in
    let is : get_or (rows_of count c) k none ≡ row_of c k = get_or_default (rows_of count c) k none no_record lt ∙ rows_at count c k below in
    subst (HasWidth (length c.analog.items) (length c.digital.items)) (sym is)
    (record { analog_count = row_length k (pos 0) c.analog.items; digital_count = row_length k false c.digital.items })

-- the values of a channel, record by record, are the front of its column
pub column_values : (count room : ℕ) (c : Columns) (channel : ℕ) → AreLaid room count c → channel < length c.analog.items
    → take count (get_or c.analog.items channel []) ≡ map (λ r. get_or r.analog channel (pos 0)) (rows_of count c)
column_values count room c channel laid lt =
    let column = get_or c.analog.items channel [] in
    let value : DataRecord → ℤ = λ r. get_or r.analog channel (pos 0) in
    let size : length (take count column) ≡ count = omega (arith, length-take count column, laid.analog channel lt, laid.within) in
    let all : length (map value (rows_of count c)) ≡ count = length-map (rows_of count c) value ∙ rows_count count c in
    ext_get_or (pos 0) (take count column) (map value (rows_of count c)) (size ∙ sym all)
    (λ k less.
    let below : k < count = omega (arith, less, size) in
    let there : k < length (rows_of count c) = omega (arith, below, rows_count count c) in
    get_or-take count column k (pos 0) below
    ∙ sym (get_or-map value (rows_of count c) k no_record (pos 0) there ∙ ap value (rows_at count c k below) ∙ row_at k (pos 0) (pos 0) c.analog.items channel lt))

same_rows : (n : ℕ) (f g : ℕ → DataRecord) → ((k : ℕ) → k < n → f k ≡ g k) → map f (range_with_len 0 n) ≡ map g (range_with_len 0 n)
same_rows n f g same =
    let len : length (map f (range_with_len 0 n)) ≡ n = length-map-range_with_len f 0 n in
    ext_get_or no_record (map f (range_with_len 0 n)) (map g (range_with_len 0 n)) (len ∙ sym (length-map-range_with_len g 0 n))
    (λ k lt.
    let below : k < n = omega (arith, lt, len) in
    get_or-map-range_with_len f 0 n k k no_record below (omega arith) ∙ same k below ∙ sym (get_or-map-range_with_len g 0 n k k no_record below (omega arith)))

-- ---- values behind the records change none of them

record_kept : (count : ℕ) (old new : Columns) → ChangesRow count old new → (k : ℕ) → k < count → row_of new k ≡ row_of old k
record_kept count old new so k below =
    let other : k ≢ count = λ e. omega (arith, below, e) in
    let n : get_or new.numbers k 0 ≡ get_or old.numbers k 0 = ap (λ (x : List ℕ). get_or x k 0) so.numbers in
    let s : get_or new.stamps k None ≡ get_or old.stamps k None = ap (λ (x : List (Option ℕ)). get_or x k None) so.stamps in
    let v : row_in k (pos 0) new.analog.items ≡ row_in k (pos 0) old.analog.items = so.analog.others k other in
    let b : row_in k false new.digital.items ≡ row_in k false old.digital.items = so.digital.others k other in
    rw (n, s, v, b) refl

pub rows_behind : (count : ℕ) (old new : Columns) → ChangesRow count old new → rows_of count new ≡ rows_of count old
unfolding rows_of
rows_behind count old new so = same_rows count (row_of new) (row_of old) (record_kept count old new so)

pub laid_behind : (room count : ℕ) (old new : Columns) → AreLaid room count old → ChangesRow count old new → AreLaid room count new
laid_behind room count old new laid so = record {
  within = laid.within;
  numbers = ap length so.numbers ∙ laid.numbers;
  stamps = ap length so.stamps ∙ laid.stamps;
  analog = places_kept count room (pos 0) old.analog.items new.analog.items laid.analog so.analog;
  digital = places_kept count room false old.digital.items new.digital.items laid.digital so.digital;
}

-- ---- a record that is put at the end

-- its values are put in the row, and then its number and its time stamp
pub record Put (count : ℕ) (h : Head) (old mid new : Columns) : Type 0 where
  pub values : ChangesRow count old mid
  pub numbers : new.numbers ≡ set mid.numbers count h.number
  pub stamps : new.stamps ≡ set mid.stamps count h.stamp
  pub analog : new.analog.items ≡ mid.analog.items
  pub digital : new.digital.items ≡ mid.digital.items

put_before : (count : ℕ) (h : Head) (old mid new : Columns) → Put count h old mid new → (k : ℕ) → k < count → row_of new k ≡ row_of old k
put_before count h old mid new p k below =
    let other : k ≢ count = λ e. omega (arith, below, e) in
    let n : get_or new.numbers k 0 ≡ get_or mid.numbers k 0 = ap (λ (x : List ℕ). get_or x k 0) p.numbers ∙ get_or-set_other mid.numbers count k h.number 0 other in
    let s : get_or new.stamps k None ≡ get_or mid.stamps k None =
    ap (λ (x : List (Option ℕ)). get_or x k None) p.stamps ∙ get_or-set_other mid.stamps count k h.stamp None other in
    let v : row_in k (pos 0) new.analog.items ≡ row_in k (pos 0) mid.analog.items = ap (row_in k (pos 0)) p.analog in
    let b : row_in k false new.digital.items ≡ row_in k false mid.digital.items = ap (row_in k false) p.digital in
    rw (n, s, v, b) (record_kept count old mid p.values k below)

put_here : (room count : ℕ) (h : Head) (old mid new : Columns) → AreLaid room count old → count < room → Put count h old mid new → row_of new count ≡ headed h count mid
put_here room count h old mid new laid lt p =
    let numbers : length mid.numbers ≡ room = ap length p.values.numbers ∙ laid.numbers in
    let stamps : length mid.stamps ≡ room = ap length p.values.stamps ∙ laid.stamps in
    let n : get_or new.numbers count 0 ≡ h.number =
    ap (λ (x : List ℕ). get_or x count 0) p.numbers ∙ get_or-set_same mid.numbers count h.number 0 (omega (arith, numbers, lt)) in
    let s : get_or new.stamps count None ≡ h.stamp =
    ap (λ (x : List (Option ℕ)). get_or x count None) p.stamps ∙ get_or-set_same mid.stamps count h.stamp None (omega (arith, stamps, lt)) in
    let v : row_in count (pos 0) new.analog.items ≡ row_in count (pos 0) mid.analog.items = ap (row_in count (pos 0)) p.analog in
    let b : row_in count false new.digital.items ≡ row_in count false mid.digital.items = ap (row_in count false) p.digital in
    rw (n, s, v, b) refl

rows_put : (room count : ℕ) (h : Head) (old mid new : Columns) → AreLaid room count old → count < room → Put count h old mid new
    → rows_of (count + 1) new ≡ rows_of count old ++ headed h count mid ∷ []
unfolding rows_of
rows_put room count h old mid new laid lt p =
    map-range_with_len_more (row_of new) 0 count count (omega arith)
    ∙ ap (λ (rs : List DataRecord). rs ++ row_of new count ∷ []) (same_rows count (row_of new) (row_of old) (put_before count h old mid new p))
    ∙ ap (λ (r : DataRecord). map (row_of old) (range_with_len 0 count) ++ r ∷ []) (put_here room count h old mid new laid lt p)

pub laid_put : (room count : ℕ) (h : Head) (old mid new : Columns) → AreLaid room count old → count < room → Put count h old mid new → AreLaid room (count + 1) new
laid_put room count h old mid new laid lt p =
    let so = laid_behind room count old mid laid p.values in
    record {
      within = omega (arith, lt);
      numbers = ap length p.numbers ∙ length-set mid.numbers count h.number ∙ so.numbers;
      stamps = ap length p.stamps ∙ length-set mid.stamps count h.stamp ∙ so.stamps;
      analog = subst (HavePlaces room) (sym p.analog) so.analog;
      digital = subst (HavePlaces room) (sym p.digital) so.digital;
    }

-- ---- the block as it is seen

abbrev pub block_of : (room count : ℕ) → Columns → Rows
block_of room count c = record { analog = length c.analog.items; digital = length c.digital.items; room = room; records = rows_of count c }

pub records_count : (room count : ℕ) (c : Columns) (b : Rows) → block_of room count c ≡ b → length b.records ≡ count
records_count room count c b view = ap (λ (x : Rows). length x.records) (sym view) ∙ rows_count count c

-- there is room for one more record
pub next_below : (room count : ℕ) (c : Columns) (b : Rows) → block_of room count c ≡ b → length b.records < b.room → count < room
next_below room count c b view lt =
    let same : room ≡ b.room = ap (λ (x : Rows). x.room) view in
    omega (arith, records_count room count c b view, same, lt)

pub record_is : (room count : ℕ) (c : Columns) (b : Rows) (k : ℕ) → block_of room count c ≡ b → k < length b.records → record_at b.records k ≡ row_of c k
record_is room count c b k view lt =
    let below : k < count = omega (arith, records_count room count c b view, lt) in
    ap (λ (x : Rows). record_at x.records k) (sym view) ∙ rows_at count c k below

pub block_shape : (room count : ℕ) (c : Columns) (b : Rows) → block_of room count c ≡ b → AreLaid room count c → AreRows b
block_shape room count c b view laid =
    subst AreRows view (record { within = omega (arith, rows_count count c, laid.within); width = rows_width count c })

pub block_put : (room count : ℕ) (h : Head) (old mid new : Columns) (b : Rows) → block_of room count old ≡ b → AreLaid room count old → count < room → Put count h old mid new
    → block_of room (count + 1) new ≡ record b { records = b.records ++ headed h count mid ∷ [] }
block_put room count h old mid new b view laid lt p =
    let analog : length new.analog.items ≡ length old.analog.items = ap length p.analog ∙ p.values.analog.count in
    let digital : length new.digital.items ≡ length old.digital.items = ap length p.digital ∙ p.values.digital.count in
    let records : rows_of (count + 1) new ≡ rows_of count old ++ headed h count mid ∷ [] = rows_put room count h old mid new laid lt p in
    let whole : block_of room (count + 1) new ≡ record (block_of room count old) { records = rows_of count old ++ headed h count mid ∷ [] } = rw (analog, digital, records) refl in
    whole ∙ ap (λ (x : Rows). record x { records = x.records ++ headed h count mid ∷ [] }) view

pub block_behind : (room count : ℕ) (old new : Columns) (b : Rows) → block_of room count old ≡ b → ChangesRow count old new → block_of room count new ≡ b
block_behind room count old new b view so =
    let records : rows_of count new ≡ rows_of count old = rows_behind count old new so in
    let whole : block_of room count new ≡ block_of room count old = rw (so.analog.count, so.digital.count, records) refl in
    whole ∙ view
