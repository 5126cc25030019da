-- What each step does to the reading of a data file.
use Rattle.std.proofs.Common.{◌≡◌, ◌≢◌, ℕ, ◌+◌, ◌-◌, ◌^◌, ◌<◌, ◌≤◌, min, List, [], ◌++◌, length, take, drop, Option, Some, None, refl, sym, ap, ◌∙◌, subst, arith, append_assoc, append-nil, length-append, length-take, length-drop}
use Rattle.std.specs.Prelude.{slice_range}
use Rattle.std.specs.Io.KnownBytes.{Consumes}
use Rattle.std.proofs.KnownBytes.{Consumes-nil, Consumes-trans}
use Rattle.std.proofs.lemmas.List.{take-append-drop, drop-take, drop-drop}
use Rattle.std.proofs.lemmas.List.FromFn.{length-map-range_with_len}
use Rattle.flk_io.specs.Causes.{TakesAll}
use Rattle.flk_cfg.specs.Valid.{IsValid}
use Rattle.flk_cfg.specs.declared.config.Config.{Config}
use Rattle.flk_dat.specs.Records.{DataRecord, Rows, Layout, layout_of, is_among, IsBlockFor, ArePresent}
use Rattle.flk_dat.specs.DataFile.{AreFirst, IsAccepted}
use Rattle.flk_dat.specs.Streams.{HasFault, EndsInFault, added, Grows}
use Rattle.flk_dat.specs.States.{layout, Stands, FitsBlock as Fits}
use Rattle.flk_dat.specs.declared.kind.DatFault.{DatFault}
use Rattle.flk_dat.proofs.TakenBytes.{taken_length}
use Rattle.flk_top.specs.Told.{MayHold}
use Rattle.flk_top.specs.Blocks.{HasRead, CanHold, Gives, Begins, EndsAs, block_of, records_of, unfed}
use Rattle.flk_top.specs.declared.blocks.Blocks.{Blocks}
use Rattle.flk_top.specs.declared.blocks.Progress.{Progress}
use Rattle.flk_top.specs.declared.blocks.Progress.TheVariants.{Full, Ended, Fault}
use Rattle.flk_top.proofs.AgreeingFiles.{MayHold-all}

-- ---- what may be held

-- what is told to be left, or nothing
abbrev rest_of : Option (List ℕ) → List ℕ
rest_of None = []
rest_of (Some bytes) = bytes

-- bytes that were taken, and what is left
MayHold-rest : (left now : Option (List ℕ)) (bytes : List ℕ) → Consumes left now bytes → MayHold left (bytes ++ rest_of now)
MayHold-rest None now bytes took = λ held is. cc
MayHold-rest (Some xs) None bytes took = absurd took
MayHold-rest (Some xs) (Some ys) bytes took = λ held is. let same : xs ≡ held = cc in sym took ∙ same

-- bytes that were taken, and then such that may be what is left
pub MayHold-taken : (left mid : Option (List ℕ)) (bytes more : List ℕ) → Consumes left mid bytes → MayHold mid more → MayHold left (bytes ++ more)
MayHold-taken None mid bytes more took h = λ held is. cc
MayHold-taken (Some xs) None bytes more took h = absurd took
MayHold-taken (Some xs) (Some ys) bytes more took h = λ held is.
    let same : xs ≡ held = cc in
    ap (λ zs. bytes ++ zs) (h ys refl) ∙ sym took ∙ same

-- ---- the bytes not yet fed

unfed_none : (b : Blocks) → b.at ≡ b.end → unfed b ≡ []
unfed_none b same = rw same (let none : b.end - b.end ≡ 0 = omega arith in rw none refl)

-- what is left of a piece when some of it was fed
unfed_rest : (piece : List ℕ) (at end n : ℕ) → at + n ≤ end → drop n (slice_range piece at end) ≡ slice_range piece (at + n) end
unfed_rest piece at end n room =
    let m = end - (at + n) in
    let size : end - at ≡ n + m = omega (arith, room) in
    rw size (drop-take n m (drop at piece) ∙ ap (take m) (drop-drop n at piece))

unfed_length : (l : Layout) (b : Blocks) (bytes : List ℕ) (rs : List DataRecord) → HasRead l b bytes rs → length (unfed b) ≡ b.end - b.at
unfed_length l b bytes rs h = omega (arith, length-take (b.end - b.at) (drop b.at b.piece.items), length-drop b.at b.piece.items, h.in_piece)

-- ---- the start

selected_count : (c : Config) (selected : List ℕ) → length (layout_of c selected).selected ≡ length c.analog
selected_count c selected = length-map-range_with_len (λ i. is_among selected (i + 1)) 0 (length c.analog)

-- the records' count bounds the bytes that were fed
pub fed_few : (l : Layout) (b : Blocks) (bytes : List ℕ) (rs : List DataRecord) → HasRead l b bytes rs → b.fed < 2 ^ 47
fed_few l b bytes rs h =
    omega (arith, taken_length b.reader h.fed rs h.stands, ap (λ (k : Layout). k.records) h.layout_is, h.few, h.count)

-- the block has a column for each of the configuration's analog channels
pub analog_columns : (c : Config) (selected : List ℕ) (b : Blocks) (bytes : List ℕ) (rs : List DataRecord) → HasRead (layout_of c selected) b bytes rs → (block_of b).analog ≡ length c.analog
analog_columns c selected b bytes rs h = h.fits.analog ∙ ap (λ (k : Layout). length k.selected) h.layout_is ∙ selected_count c selected

-- an empty block of the configuration
pub empty_can_hold : (c : Config) (selected : List ℕ) (b : Rows) → IsValid c → IsBlockFor c b → b.room ≡ min 65536 c.endsamp → CanHold (layout_of c selected) b
empty_can_hold c selected b valid is room = record {
  analog = is.analog ∙ sym (selected_count c selected);
  digital = is.digital;
  some = omega (arith, room, valid.endsamp_some);
}

-- the block is handed over for another one
pub exchanged : (l : Layout) (old : Blocks) (other : Rows) (bytes : List ℕ) (rs : List DataRecord) → HasRead l old bytes rs → CanHold l other
    → HasRead l (record old { block = other }) bytes rs × CanHold l (block_of old)
exchanged l old other bytes rs h can =
    let selected = ap (λ (k : Layout). length k.selected) h.layout_is in
    let digital = ap (λ (k : Layout). k.digital) h.layout_is in (
      record {
        fed = h.fed;
        bytes_are = h.bytes_are;
        stands = h.stands;
        count = h.count;
        layout_is = h.layout_is;
        few = h.few;
        fits = record { analog = can.analog ∙ sym selected; digital = can.digital ∙ sym digital };
        some = can.some;
        in_order = h.in_order;
        in_piece = h.in_piece;
        size = h.size;
      },
      record { analog = h.fits.analog ∙ selected; digital = h.fits.digital ∙ digital; some = h.some },
    )

-- the block is emptied
pub cleared : (l : Layout) (old new : Blocks) (bytes : List ℕ) (rs : List DataRecord) → HasRead l old bytes rs
    → new ≡ record old { block = record old.block { records = [] } } → HasRead l new bytes (rs ++ records_of new)
cleared l old new bytes rs h is =
    rw (is, append-nil rs)
    (record {
      fed = h.fed;
      bytes_are = h.bytes_are;
      stands = h.stands;
      count = h.count;
      layout_is = h.layout_is;
      few = h.few;
      fits = record { analog = h.fits.analog; digital = h.fits.digital };
      some = h.some;
      in_order = h.in_order;
      in_piece = h.in_piece;
      size = h.size;
    })

-- ---- one step more

gathered : (past : List DataRecord) (before after : Rows) → Grows before after → (past ++ before.records) ++ added before after ≡ past ++ after.records
gathered past before after grows = append_assoc past before.records (added before after) ∙ ap (λ rs. past ++ rs) (sym grows.records)

-- bytes of the piece were fed
pub fed_more : (l : Layout) (old new : Blocks) (piece : List ℕ) (n : ℕ) (bytes : List ℕ) (past : List DataRecord) → HasRead l old bytes (past ++ records_of old)
    → piece ≡ unfed old → n ≤ length piece → Grows old.block new.block → layout new.reader ≡ layout old.reader → Fits new.reader new.block
    → ((taken : List ℕ) (given : List DataRecord) → Stands old.reader taken given → Stands new.reader (taken ++ take n piece) (given ++ added old.block new.block))
    → new.piece ≡ old.piece → new.at ≡ old.at + n → new.end ≡ old.end → new.fed ≡ old.fed + n
    → HasRead l new bytes (past ++ records_of new)
fed_more l old new piece n bytes past h is within grows same fits step kept at end fed =
    let long = unfed_length l old bytes (past ++ records_of old) h in
    let size = ap (λ (xs : List ℕ). length xs) is in
    let room : old.at + n ≤ old.end = omega (arith, within, size, long, h.in_order) in
    let front = take n piece in
    let rest : unfed new ≡ drop n piece = rw (kept, at, end, is) (sym (unfed_rest old.piece.items old.at old.end n room)) in
    record {
      fed = h.fed ++ front;
      bytes_are = h.bytes_are ∙ ap (λ xs. h.fed ++ xs) (sym is ∙ sym (take-append-drop n piece) ∙ ap (λ xs. front ++ xs) (sym rest)) ∙ sym (append_assoc h.fed front (unfed new));
      stands = subst (Stands new.reader (h.fed ++ front)) (gathered past old.block new.block grows) (step h.fed (past ++ records_of old) h.stands);
      count = omega (arith, fed, h.count, length-append h.fed front, length-take n piece, within);
      layout_is = same ∙ h.layout_is;
      few = h.few;
      fits = fits;
      some = omega (arith, grows.room, h.some);
      in_order = omega (arith, at, end, room);
      in_piece = rw (kept, end) h.in_piece;
      size = rw kept h.size;
    }

-- the piece has a fault
pub fed_fault : (l : Layout) (old : Blocks) (piece : List ℕ) (before after : Rows) (f : DatFault) (bytes : List ℕ) (past : List DataRecord) → HasRead l old bytes (past ++ before.records)
    → piece ≡ unfed old → Grows before after
    → ((taken : List ℕ) (given : List DataRecord) → Stands old.reader taken given → HasFault (layout old.reader) (taken ++ piece) (given ++ added before after) f)
    → HasFault l bytes (past ++ after.records) f
fed_fault l old piece before after f bytes past h is grows step =
    let fault = step h.fed (past ++ before.records) h.stands in
    let joined : h.fed ++ piece ≡ bytes = ap (λ xs. h.fed ++ xs) is ∙ sym h.bytes_are in
    let P : Layout → Type 0 = λ k. HasFault k bytes (past ++ after.records) f in
    let Q : List ℕ → Type 0 = λ xs. HasFault (layout old.reader) xs (past ++ after.records) f in
    subst P h.layout_is (subst Q joined (subst (λ rs. HasFault (layout old.reader) (h.fed ++ piece) rs f) (gathered past before after grows) fault))

-- what is fed at once fits the count
pub fed_fits : (l : Layout) (old : Blocks) (piece : List ℕ) (n : ℕ) (bytes : List ℕ) (rs : List DataRecord) → HasRead l old bytes rs → piece ≡ unfed old → n ≤ length piece → old.fed + n < 2 ^ 48
fed_fits l old piece n bytes rs h is within =
    omega (arith, fed_few l old bytes rs h, ap (λ (xs : List ℕ). length xs) is, unfed_length l old bytes rs h, within, h.in_piece, h.size)

-- ---- the end of the input

all_fed : (l : Layout) (b : Blocks) (bytes : List ℕ) (rs : List DataRecord) (h : HasRead l b bytes rs) → b.at ≡ b.end → h.fed ≡ bytes
all_fed l b bytes rs h same = sym (h.bytes_are ∙ ap (λ xs. h.fed ++ xs) (unfed_none b same) ∙ append-nil h.fed)

pub accepted_at_end : (l : Layout) (old : Blocks) (before after : Rows) (bytes : List ℕ) (past : List DataRecord) → HasRead l old bytes (past ++ before.records) → old.at ≡ old.end → Grows before after
    → ((taken : List ℕ) (given : List DataRecord) → Stands old.reader taken given → IsAccepted (layout old.reader) taken (given ++ added before after))
    → IsAccepted l bytes (past ++ after.records)
accepted_at_end l old before after bytes past h same grows step =
    let P : Layout → Type 0 = λ k. IsAccepted k bytes (past ++ after.records) in
    let Q : List ℕ → Type 0 = λ xs. IsAccepted (layout old.reader) xs (past ++ after.records) in
    subst P h.layout_is (subst Q (all_fed l old bytes (past ++ before.records) h same)
    (subst (IsAccepted (layout old.reader) h.fed) (gathered past before after grows) (step h.fed (past ++ before.records) h.stands)))

pub fault_at_end : (l : Layout) (old : Blocks) (before after : Rows) (f : DatFault) (bytes : List ℕ) (past : List DataRecord) → HasRead l old bytes (past ++ before.records) → old.at ≡ old.end → Grows before after
    → ((taken : List ℕ) (given : List DataRecord) → Stands old.reader taken given → EndsInFault (layout old.reader) taken (given ++ added before after) f)
    → EndsInFault l bytes (past ++ after.records) f
fault_at_end l old before after f bytes past h same grows step =
    let P : Layout → Type 0 = λ k. EndsInFault k bytes (past ++ after.records) f in
    let Q : List ℕ → Type 0 = λ xs. EndsInFault (layout old.reader) xs (past ++ after.records) f in
    let R : List DataRecord → Type 0 = λ rs. EndsInFault (layout old.reader) h.fed rs f in
    subst P h.layout_is (subst Q (all_fed l old bytes (past ++ before.records) h same)
    (subst R (gathered past before after grows) (step h.fed (past ++ before.records) h.stands)))

-- ---- what a whole call gives

-- of the bytes and the records before the call, as far as it has come: what was taken, and what of that was read
pub record HasGone (l : Layout) (new : Blocks) (bytes : List ℕ) (rs : List DataRecord) (left now : Option (List ℕ)) : Type 0 where
  pub more : List ℕ
  pub took : Consumes left now more
  pub has : HasRead l new (bytes ++ more) (rs ++ records_of new)

-- the block is emptied
pub gone_none : (l : Layout) (old new : Blocks) (bytes : List ℕ) (rs : List DataRecord) (left : Option (List ℕ)) → HasRead l old bytes rs
    → new ≡ record old { block = record old.block { records = [] } } → HasGone l new bytes rs left left
gone_none l old new bytes rs left h is =
    record { more = []; took = Consumes-nil left; has = subst (λ xs. HasRead l new xs (rs ++ records_of new)) (sym (append-nil bytes)) (cleared l old new bytes rs h is) }

-- a piece was read where the last one was fed
pub gone_refilled : (l : Layout) (old new : Blocks) (bytes : List ℕ) (rs : List DataRecord) (left mid now : Option (List ℕ)) → HasGone l old bytes rs left mid → block_of new ≡ block_of old
    → ((k : Layout) (xs : List ℕ) (given : List DataRecord) → HasRead k old xs given → (more : List ℕ) × Consumes mid now more × HasRead k new (xs ++ more) given)
    → HasGone l new bytes rs left now
gone_refilled l old new bytes rs left mid now gone same step =
    let next = step l (bytes ++ gone.more) (rs ++ records_of old) gone.has in
    let P : Rows → Type 0 = λ b. HasRead l new (bytes ++ (gone.more ++ next.0)) (rs ++ b.records) in
    record {
      more = gone.more ++ next.0;
      took = Consumes-trans left mid now gone.more next.0 gone.took next.1;
      has = subst P (sym same) (subst (λ xs. HasRead l new xs (rs ++ records_of old)) (append_assoc bytes gone.more next.0) next.2);
    }

-- bytes of the piece were fed
pub gone_fed : (l : Layout) (old new : Blocks) (bytes : List ℕ) (rs : List DataRecord) (left now : Option (List ℕ)) → HasGone l old bytes rs left now
    → ((k : Layout) (xs : List ℕ) (past : List DataRecord) → HasRead k old xs (past ++ records_of old) → HasRead k new xs (past ++ records_of new))
    → HasGone l new bytes rs left now
gone_fed l old new bytes rs left now gone step = record { more = gone.more; took = gone.took; has = step l (bytes ++ gone.more) rs gone.has }

-- the records that came are the first of the data, whatever follows
first_of : (l : Layout) (b : Blocks) (bytes rest : List ℕ) (rs : List DataRecord) → HasRead l b bytes rs → AreFirst l (bytes ++ rest) rs × ArePresent l rs
first_of l b bytes rest rs h =
    let P : Layout → Type 0 = λ k. AreFirst k (bytes ++ rest) rs in
    let Q : Layout → Type 0 = λ k. ArePresent k rs in
    let joined : h.fed ++ (unfed b ++ rest) ≡ bytes ++ rest = sym (append_assoc h.fed (unfed b) rest) ∙ ap (λ xs. xs ++ rest) (sym h.bytes_are) in
    (subst P h.layout_is (subst (λ xs. AreFirst (layout b.reader) xs rs) joined (h.stands.has.first (unfed b ++ rest))), subst Q h.layout_is h.stands.has.present)

pub begins_full : (l : Layout) (new : Blocks) (bytes : List ℕ) (rs : List DataRecord) (left now : Option (List ℕ)) → HasGone l new bytes rs left now → Begins l bytes (rs ++ records_of new) left
begins_full l new bytes rs left now gone =
    let rest = rest_of now in
    let is = first_of l new (bytes ++ gone.more) rest (rs ++ records_of new) gone.has in
    let P : List ℕ → Type 0 = λ xs. AreFirst l xs (rs ++ records_of new) in
    (gone.more ++ rest, MayHold-rest left now gone.more gone.took, subst P (append_assoc bytes gone.more rest) is.0, is.1)

-- a fault on the way is that of all data
pub gives_fault : (l : Layout) (f : DatFault) (bytes more : List ℕ) (rs : List DataRecord) (left now : Option (List ℕ)) → Consumes left now more → HasFault l (bytes ++ more) rs f
    → (all : List ℕ) × MayHold left all × EndsInFault l (bytes ++ all) rs f
gives_fault l f bytes more rs left now took fault =
    let rest = rest_of now in
    let ends : EndsInFault l ((bytes ++ more) ++ rest) rs f = record { row = fault.row; kind = fault.kind; number = fault.number; here = fault.sure rest } in
    let P : List ℕ → Type 0 = λ xs. EndsInFault l xs rs f in
    (more ++ rest, MayHold-rest left now more took, subst P (append_assoc bytes more rest) ends)

-- data that have ended are given
pub gives_end : (p : Progress) (l : Layout) (new : Blocks) (bytes more : List ℕ) (rs : List DataRecord) (left now : Option (List ℕ)) → TakesAll left now more → EndsAs p l (bytes ++ more) (rs ++ records_of new)
    → Gives p l bytes rs new left now
gives_end Full l new bytes more rs left now took ends = absurd ends
gives_end Ended l new bytes more rs left now took ends = (more, took, ends)
gives_end (Fault f) l new bytes more rs left now took ends = (more, MayHold-all left now more took, ends)

-- such data begin with the records that came, and no value of a selected channel is missing in them
pub ends_begin : (p : Progress) (l : Layout) (bytes : List ℕ) (rs : List DataRecord) → EndsAs p l bytes rs → AreFirst l bytes rs × ArePresent l rs
ends_begin Full l bytes rs ends = absurd ends
ends_begin Ended l bytes rs ends = (ends.file.first, ends.present)
ends_begin (Fault f) l bytes rs ends = (ends.here.first, ends.here.present)

pub begins_end : (p : Progress) (l : Layout) (new : Blocks) (bytes more : List ℕ) (rs : List DataRecord) (left now : Option (List ℕ)) → TakesAll left now more → EndsAs p l (bytes ++ more) (rs ++ records_of new)
    → Begins l bytes (rs ++ records_of new) left
begins_end p l new bytes more rs left now took ends =
    let begin = ends_begin p l (bytes ++ more) (rs ++ records_of new) ends in
    (more, MayHold-all left now more took, begin.0, begin.1)

pub begins_fault : (l : Layout) (f : DatFault) (bytes : List ℕ) (rs : List DataRecord) (left : Option (List ℕ)) → (all : List ℕ) × MayHold left all × EndsInFault l (bytes ++ all) rs f → Begins l bytes rs left
begins_fault l f bytes rs left given = (given.0, given.1, given.2.here.first, given.2.here.present)

-- ---- a loop over blocks

-- of the data under a name: what was taken so far, the records that came, and what is known of these
pub record HasCome (l : Layout) (b : Blocks) (Known : List DataRecord → Type 0) (left now : Option (List ℕ)) : Type 0 where
  pub bytes : List ℕ
  pub records : List DataRecord
  pub took : Consumes left now bytes
  pub read : HasRead l b bytes records
  pub known : Known records

pub come_none : (l : Layout) (b : Blocks) (Known : List DataRecord → Type 0) (left : Option (List ℕ)) → HasRead l b [] [] → Known [] → HasCome l b Known left left
come_none l b Known left read known = record { bytes = []; records = []; took = Consumes-nil left; read = read; known = known }

pub come_full : (p : Progress) (l : Layout) (old new : Blocks) (Known After : List DataRecord → Type 0) (left mid now : Option (List ℕ)) (h : HasCome l old Known left mid) → p ≡ Full
    → ((k : Layout) (bytes : List ℕ) (rs : List DataRecord) → HasRead k old bytes rs → Gives p k bytes rs new mid now) → After (h.records ++ records_of new)
    → HasCome l new After left now
come_full p l old new Known After left mid now h is gives after =
    let P : Progress → Type 0 = λ q. Gives q l h.bytes h.records new mid now in
    let given = subst P is (gives l h.bytes h.records h.read) in
    record { bytes = h.bytes ++ given.0; records = h.records ++ records_of new; took = Consumes-trans left mid now h.bytes given.0 h.took given.1; read = given.2; known = after }

pub come_ended : (p : Progress) (l : Layout) (old new : Blocks) (Known : List DataRecord → Type 0) (left mid now : Option (List ℕ)) (h : HasCome l old Known left mid) → p ≡ Ended
    → ((k : Layout) (bytes : List ℕ) (rs : List DataRecord) → HasRead k old bytes rs → Gives p k bytes rs new mid now)
    → (bytes : List ℕ) × MayHold left bytes × IsAccepted l bytes (h.records ++ records_of new)
come_ended p l old new Known left mid now h is gives =
    let P : Progress → Type 0 = λ q. Gives q l h.bytes h.records new mid now in
    let given = subst P is (gives l h.bytes h.records h.read) in
    (h.bytes ++ given.0, MayHold-taken left mid h.bytes given.0 h.took (MayHold-all mid now given.0 given.1), given.2)

pub come_fault : (p : Progress) (f : DatFault) (l : Layout) (old new : Blocks) (Known : List DataRecord → Type 0) (left mid now : Option (List ℕ)) (h : HasCome l old Known left mid) → p ≡ Fault f
    → ((k : Layout) (bytes : List ℕ) (rs : List DataRecord) → HasRead k old bytes rs → Gives p k bytes rs new mid now)
    → (bytes : List ℕ) × MayHold left bytes × EndsInFault l bytes (h.records ++ records_of new) f
come_fault p f l old new Known left mid now h is gives =
    let P : Progress → Type 0 = λ q. Gives q l h.bytes h.records new mid now in
    let given = subst P is (gives l h.bytes h.records h.read) in
    (h.bytes ++ given.0, MayHold-taken left mid h.bytes given.0 h.took given.1, given.2)

pub come_begins : (l : Layout) (old : Blocks) (Known : List DataRecord → Type 0) (more : List DataRecord) (left mid : Option (List ℕ)) (h : HasCome l old Known left mid)
    → ((k : Layout) (bytes : List ℕ) (rs : List DataRecord) → HasRead k old bytes rs → Begins k bytes (rs ++ more) mid)
    → (bytes : List ℕ) × MayHold left bytes × AreFirst l bytes (h.records ++ more) × ArePresent l (h.records ++ more)
come_begins l old Known more left mid h begins =
    let given = begins l h.bytes h.records h.read in
    (h.bytes ++ given.0, MayHold-taken left mid h.bytes given.0 h.took given.1, given.2, given.3)

-- the records that came and those of the block are few
pub come_few : (l : Layout) (old : Blocks) (Known : List DataRecord → Type 0) (more : List DataRecord) (left mid : Option (List ℕ)) (h : HasCome l old Known left mid)
    → ((k : Layout) (bytes : List ℕ) (rs : List DataRecord) → HasRead k old bytes rs → Begins k bytes (rs ++ more) mid) → length h.records + length more < 2 ^ 32
come_few l old Known more left mid h begins =
    let given = begins l h.bytes h.records h.read in
    omega (arith, given.2.within, h.read.few, length-append h.records more)

-- ---- a block that is read ahead

-- of the data under a name: the records before the block that was filled last, what is known of these, and what that
-- block told
pub record HasFilled (p : Progress) (l : Layout) (b : Blocks) (Known : List DataRecord → Type 0) (left now : Option (List ℕ)) : Type 0 where
  pub records : List DataRecord
  pub known : Known records
  pub gives : Gives p l [] records b left now
  pub begins : Begins l [] (records ++ records_of b) left

-- what a block tells of the data behind these bytes, it tells of the data
gives_behind : (p : Progress) (l : Layout) (bytes : List ℕ) (rs : List DataRecord) (new : Blocks) (left mid now : Option (List ℕ)) → Consumes left mid bytes → Gives p l bytes rs new mid now
    → Gives p l [] rs new left now
gives_behind Full l bytes rs new left mid now took given = (bytes ++ given.0, Consumes-trans left mid now bytes given.0 took given.1, given.2, given.3)
gives_behind Ended l bytes rs new left mid now took given = (bytes ++ given.0, (Consumes-trans left mid now bytes given.0 took given.1.0, given.1.1), given.2)
gives_behind (Fault f) l bytes rs new left mid now took given = (bytes ++ given.0, MayHold-taken left mid bytes given.0 took given.1, given.2)

-- the block was handed over, and the next one was filled
pub filled_more : (p : Progress) (l : Layout) (old mid new : Blocks) (Known After : List DataRecord → Type 0) (left here now : Option (List ℕ)) (h : HasFilled Full l old Known left here)
    → ((bytes : List ℕ) (rs : List DataRecord) → HasRead l old bytes rs → HasRead l mid bytes rs)
    → ((k : Layout) (bytes : List ℕ) (rs : List DataRecord) → HasRead k mid bytes rs → Gives p k bytes rs new here now)
    → ((k : Layout) (bytes : List ℕ) (rs : List DataRecord) → HasRead k mid bytes rs → Begins k bytes (rs ++ records_of new) here)
    → After (h.records ++ records_of old) → HasFilled p l new After left now
filled_more p l old mid new Known After left here now h same gives begins after =
    let given = h.gives in
    let rs = h.records ++ records_of old in
    let read = same given.0 rs given.2 in
    let more = begins l given.0 rs read in
    record {
      records = rs;
      known = after;
      gives = gives_behind p l given.0 rs new left here now given.1 (gives l given.0 rs read);
      begins = (given.0 ++ more.0, MayHold-taken left here given.0 more.0 given.1 more.1, more.2, more.3);
    }

-- no block follows
pub filled_last : (p : Progress) (l : Layout) (b : Blocks) (Known : List DataRecord → Type 0) (left now : Option (List ℕ)) (h : HasFilled p l b Known left now) → p ≢ Full
    → (bytes : List ℕ) × MayHold left bytes × EndsAs p l bytes (h.records ++ records_of b)
filled_last Full l b Known left now h last = absurd (last refl)
filled_last Ended l b Known left now h last = (h.gives.0, MayHold-all left now h.gives.0 h.gives.1, h.gives.2)
filled_last (Fault f) l b Known left now h last = h.gives

-- how many bytes may be fed before no block follows
abbrev pub feeds_left : Progress → (fed : ℕ) → ℕ
feeds_left Full fed = 2 ^ 47 - fed
feeds_left Ended fed = 0
feeds_left (Fault f) fed = 0

pub fewer_left : (p : Progress) (old new : ℕ) → old < 2 ^ 47 → (p ≡ Full → old < new) → feeds_left p new < 2 ^ 47 - old
fewer_left Full old new few further = omega (arith, few, further refl)
fewer_left Ended old new few further = omega (arith, few)
fewer_left (Fault f) old new few further = omega (arith, few)
