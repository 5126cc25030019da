-- Bytes write at most one configuration, and none where they have a first fault.
use Rattle.std.proofs.Common.{◌≡◌, ℕ, ◌+◌, List, length, get_or, refl, sym, ap, subst, ◌∙◌, arith, inl, inr, ℤ, pos, Bool}
use Rattle.std.proofs.lemmas.Int.{ints}
use Rattle.std.proofs.lemmas.List.{ext_get_or}
use Rattle.flk_num.specs.declared.rate.Rate.{Rate}
use Rattle.flk_num.specs.declared.rate.Rate.TheVariants.{R2400, R4800}
use Rattle.flk_text.proofs.NumeralLemmas.{decimal_once}
use Rattle.flk_field.specs.Values.{IsRate}
use Rattle.flk_field.specs.Sets.{IsGoodLine, at}
use Rattle.flk_cfg.specs.Table.{ChannelCounts, title_row}
use Rattle.flk_cfg.specs.Rows.{IsTitle, IsCounts, IsAnalog, IsDigital, IsLineFrequency, IsSampling, IsStamp, IsFileType, IsMultiplier, TitleFault, CountsFault}
use Rattle.flk_cfg.specs.Places.{HasLine}
use Rattle.flk_cfg.specs.File.{IsConfig, AreAnalogs, AreDigitals, AreSettings, IsFirstFault, FaultFromSecond, FaultFromThird, FaultFromLast}
use Rattle.flk_cfg.specs.SettingParts.{setting_at, AreSettingLines}
use Rattle.flk_cfg.specs.declared.config.Analog.{Analog}
use Rattle.flk_cfg.specs.declared.config.Digital.{Digital}
use Rattle.flk_cfg.specs.declared.config.Stamp.{Stamp}
use Rattle.flk_cfg.specs.declared.config.Config.{Config}
use Rattle.flk_field.specs.declared.form.Form.{Form}
use Rattle.flk_cfg.specs.declared.settings.Settings.{Settings}
use Rattle.flk_field.specs.declared.kind.Kind.{Kind}
use Rattle.flk_text.specs.declared.decimals.DecimalValue.{DecimalValue}
use Rattle.flk_field.proofs.FieldLaws.{whole_from_once, decimal_or_zero_once, side_once, bit_once, form_once}
use Rattle.flk_field.proofs.DateJudges.{date_once, time_once}
use Rattle.flk_cfg.proofs.Rows.{good_title, good_multiplier, row_digital, row_setting}
use Rattle.flk_cfg.proofs.Whole.{no_analog, no_digital, good_analogs, good_digitals, good_settings, good_none, good_run, rows_analog, GoodThird}
use Rattle.flk_cfg.proofs.LineLaws.{one_line, one_last_line, line_or_fault, title_or_fault, counts_or_fault, third_or_fault, last_or_fault, counts_at_once, same_counts}

-- ---- a configuration has no fault

settings_of : Config → Settings
settings_of c = record { lf = c.lf; rate = c.rate; endsamp = c.endsamp; first = c.first; trigger = c.trigger; form = c.form }

lines_of : (bytes : List ℕ) (k : ℕ) (c : Config) → AreSettings bytes k c → AreSettingLines bytes k (settings_of c)
unfolding settings_of
lines_of bytes k c s = record { frequency = s.frequency; rates = s.rates; sampling = s.sampling; first = s.first; trigger = s.trigger; file_type = s.file_type }

abbrev channels_of : Config → ChannelCounts
channels_of c = record { analog = length c.analog; digital = length c.digital }

all_good : (bytes : List ℕ) (c : Config) → IsConfig bytes c → GoodThird bytes (channels_of c) (length c.analog + length c.digital + 6)
all_good bytes c is =
    let count = channels_of c in
    let na = length c.analog in
    let nd = length c.digital in
    let one = good_run bytes count 0 na _ (good_none bytes count) (rows_analog count) (good_analogs bytes 2 na c.analog refl is.analogs) in
    let two : GoodThird bytes (channels_of c) (length c.analog) = λ i lt. one i (omega (arith, lt)) in
    let three = good_run bytes count na nd _ two (row_digital count) (good_digitals bytes (2 + na) nd c.digital refl is.digitals) in
    let same : 2 + length c.analog + length c.digital ≡ 2 + (length c.analog + length c.digital) = omega arith in
    let moved : AreSettingLines bytes (2 + (length c.analog + length c.digital)) (settings_of c) =
    subst (λ (k : ℕ). AreSettingLines bytes k (settings_of c)) same (lines_of bytes (2 + na + nd) c is.settings) in
    good_run bytes count (na + nd) 6 setting_at three (λ i lt. row_setting count i) (λ i lt. good_settings bytes (2 + (na + nd)) (settings_of c) i moved lt)

from_last_none : (bytes : List ℕ) (c : Config) (l p : ℕ) (i : Kind) (k : ℕ) → AreSettings bytes k c → FaultFromLast bytes (k + 6) l p i → ⊥
from_last_none bytes c l p i k s (inl f) = last_or_fault bytes (k + 6) p i (s.last.0, s.last.1, good_multiplier s.last.0 c.timemult.n s.last.2) f.1
from_last_none bytes c l p i k s (inr f) = f.1.3 s.tail

from_third_none : (bytes : List ℕ) (c : Config) (l p : ℕ) (i : Kind) → IsConfig bytes c → FaultFromThird bytes (channels_of c) l p i → ⊥
from_third_none bytes c l p i is (inl f) = third_or_fault bytes (channels_of c) f.0 p i (all_good bytes c is f.0 f.2.within) f.2.here
from_third_none bytes c l p i is (inr f) = from_last_none bytes c l p i (2 + length c.analog + length c.digital) is.settings f.1

from_second_none : (bytes : List ℕ) (c : Config) (l p : ℕ) (i : Kind) → IsConfig bytes c → FaultFromSecond bytes l p i → ⊥
from_second_none bytes c l p i is (inl f) =
    line_or_fault bytes 1 p i (λ parts. IsCounts parts (length c.analog) (length c.digital)) CountsFault (λ fs. counts_or_fault fs (length c.analog) (length c.digital) p i) is.counts f.1
from_second_none bytes c l p i is (inr f) =
    let same = counts_at_once bytes f.0.analog f.0.digital (length c.analog) (length c.digital) f.1 is.counts in
    from_third_none bytes c l p i is (subst (λ (count : ChannelCounts). FaultFromThird bytes count l p i) (same_counts f.0 (channels_of c) same.0 same.1) f.2)

pub config_or_fault : (bytes : List ℕ) (c : Config) (l p : ℕ) (i : Kind) → IsConfig bytes c → IsFirstFault bytes l p i → ⊥
config_or_fault bytes c l p i is (inl f) =
    line_or_fault bytes 0 p i (IsGoodLine title_row) TitleFault (λ fs. title_or_fault fs p i) (is.title.0, is.title.1, good_title is.title.0 c.station c.device is.title.2) f.1
config_or_fault bytes c l p i is (inr f) = from_second_none bytes c l p i is f.1

-- ---- one configuration

value_is : (y z : DecimalValue) → y.n ≡ z.n → y ≡ z
value_is y z e = ap (λ (n : ℤ). record { n = n }) e

abbrev analog_of : List ℕ → List ℕ → List ℕ → List ℕ → DecimalValue → DecimalValue → DecimalValue → DecimalValue → DecimalValue → DecimalValue → DecimalValue → ℕ → Analog
analog_of id ph ccbm uu a b skew min max primary secondary ps =
    record { id = id; ph = ph; ccbm = ccbm; uu = uu; a = a; b = b; skew = skew; min = min; max = max; primary = primary; secondary = secondary; ps = ps }

made_analog : (id1 : List ℕ) (ph1 : List ℕ) (ccbm1 : List ℕ) (uu1 : List ℕ) (a1 : DecimalValue) (b1 : DecimalValue) (skew1 : DecimalValue) (min1 : DecimalValue) (max1 : DecimalValue) (primary1 : DecimalValue) (secondary1 : DecimalValue) (ps1 : ℕ) (id2 : List ℕ) (ph2 : List ℕ) (ccbm2 : List ℕ) (uu2 : List ℕ) (a2 : DecimalValue) (b2 : DecimalValue) (skew2 : DecimalValue) (min2 : DecimalValue) (max2 : DecimalValue) (primary2 : DecimalValue) (secondary2 : DecimalValue) (ps2 : ℕ) → id1 ≡ id2 → ph1 ≡ ph2 → ccbm1 ≡ ccbm2 → uu1 ≡ uu2 → a1 ≡ a2 → b1 ≡ b2 → skew1 ≡ skew2 → min1 ≡ min2 → max1 ≡ max2 → primary1 ≡ primary2 → secondary1 ≡ secondary2 → ps1 ≡ ps2 → analog_of id1 ph1 ccbm1 uu1 a1 b1 skew1 min1 max1 primary1 secondary1 ps1 ≡ analog_of id2 ph2 ccbm2 uu2 a2 b2 skew2 min2 max2 primary2 secondary2 ps2
made_analog id1 ph1 ccbm1 uu1 a1 b1 skew1 min1 max1 primary1 secondary1 ps1 id2 ph2 ccbm2 uu2 a2 b2 skew2 min2 max2 primary2 secondary2 ps2 ide phe ccbme uue ae be skewe mine maxe primarye secondarye pse = cc

one_analog : (position : ℕ) (fs : List (List ℕ)) (c d : Analog) → IsAnalog position fs c → IsAnalog position fs d → c ≡ d
one_analog position fs c d p q =
    let id : c.id ≡ d.id = p.id_is.is ∙ sym q.id_is.is in
    let ph : c.ph ≡ d.ph = p.ph_is.is ∙ sym q.ph_is.is in
    let ccbm : c.ccbm ≡ d.ccbm = p.ccbm_is.is ∙ sym q.ccbm_is.is in
    let uu : c.uu ≡ d.uu = p.uu_is.is ∙ sym q.uu_is.is in
    let a : c.a ≡ d.a = value_is c.a d.a (decimal_once (at fs 6) c.a.n d.a.n p.a_is q.a_is) in
    let b : c.b ≡ d.b = value_is c.b d.b (decimal_once (at fs 7) c.b.n d.b.n p.b_is q.b_is) in
    let skew : c.skew ≡ d.skew = value_is c.skew d.skew (decimal_or_zero_once (at fs 8) c.skew.n d.skew.n p.skew_is q.skew_is) in
    let min : c.min ≡ d.min = value_is c.min d.min (decimal_once (at fs 9) c.min.n d.min.n p.min_is q.min_is) in
    let max : c.max ≡ d.max = value_is c.max d.max (decimal_once (at fs 10) c.max.n d.max.n p.max_is q.max_is) in
    let primary : c.primary ≡ d.primary = value_is c.primary d.primary (decimal_once (at fs 11) c.primary.n d.primary.n p.primary_is q.primary_is) in
    let secondary : c.secondary ≡ d.secondary = value_is c.secondary d.secondary (decimal_once (at fs 12) c.secondary.n d.secondary.n p.secondary_is q.secondary_is) in
    let ps : c.ps ≡ d.ps = side_once (at fs 13) c.ps d.ps p.ps_is q.ps_is in
    made_analog c.id c.ph c.ccbm c.uu c.a c.b c.skew c.min c.max c.primary c.secondary c.ps d.id d.ph d.ccbm d.uu d.a d.b d.skew d.min d.max d.primary d.secondary d.ps id ph ccbm uu a b skew min max primary
    secondary ps

abbrev digital_of : List ℕ → List ℕ → List ℕ → Bool → Digital
digital_of id ph ccbm normal = record { id = id; ph = ph; ccbm = ccbm; normal = normal }

one_digital : (position : ℕ) (fs : List (List ℕ)) (c d : Digital) → IsDigital position fs c → IsDigital position fs d → c ≡ d
one_digital position fs c d p q =
    let id : c.id ≡ d.id = p.id_is.is ∙ sym q.id_is.is in
    let ph : c.ph ≡ d.ph = p.ph_is.is ∙ sym q.ph_is.is in
    let ccbm : c.ccbm ≡ d.ccbm = p.ccbm_is.is ∙ sym q.ccbm_is.is in
    let normal : c.normal ≡ d.normal = bit_once (at fs 5) c.normal d.normal p.normal_is q.normal_is in
    ap (λ (x : List ℕ). digital_of x c.ph c.ccbm c.normal) id ∙ ap (λ (x : List ℕ). digital_of d.id x c.ccbm c.normal) ph ∙ ap (λ (x : List ℕ). digital_of d.id d.ph x c.normal) ccbm
    ∙ ap (λ (x : Bool). digital_of d.id d.ph d.ccbm x) normal

one_analogs : (bytes : List ℕ) (k : ℕ) (xs ys : List Analog) → length xs ≡ length ys → AreAnalogs bytes k xs → AreAnalogs bytes k ys → xs ≡ ys
one_analogs bytes k xs ys len p q =
    ext_get_or no_analog xs ys len (λ i lt.
    let x = p i no_analog lt in
    let y = q i no_analog (omega (arith, lt, len)) in
    one_analog (i + 1) y.0 (get_or xs i no_analog) (get_or ys i no_analog) (subst (λ (fs : List (List ℕ)). IsAnalog (i + 1) fs (get_or xs i no_analog)) (one_line bytes (k + i) x.0 y.0 x.1 y.1) x.2) y.2)

one_digitals : (bytes : List ℕ) (k : ℕ) (xs ys : List Digital) → length xs ≡ length ys → AreDigitals bytes k xs → AreDigitals bytes k ys → xs ≡ ys
one_digitals bytes k xs ys len p q =
    ext_get_or no_digital xs ys len (λ i lt.
    let x = p i no_digital lt in
    let y = q i no_digital (omega (arith, lt, len)) in
    one_digital (i + 1) y.0 (get_or xs i no_digital) (get_or ys i no_digital) (subst (λ (fs : List (List ℕ)). IsDigital (i + 1) fs (get_or xs i no_digital)) (one_line bytes (k + i) x.0 y.0 x.1 y.1) x.2)
    y.2)

abbrev stamp_of : ℤ → ℕ → ℕ → ℕ → ℕ → ℕ → ℕ → Stamp
stamp_of y m d h i s n = record { year = y; month = m; day = d; hour = h; minute = i; second = s; nanos = n }

same_stamp : (y1 : ℤ) (m1 d1 h1 i1 s1 n1 : ℕ) (y2 : ℤ) (m2 d2 h2 i2 s2 n2 : ℕ) → y1 ≡ y2 → m1 ≡ m2 → d1 ≡ d2 → h1 ≡ h2 → i1 ≡ i2 → s1 ≡ s2 → n1 ≡ n2
    → stamp_of y1 m1 d1 h1 i1 s1 n1 ≡ stamp_of y2 m2 d2 h2 i2 s2 n2
same_stamp y1 m1 d1 h1 i1 s1 n1 y2 m2 d2 h2 i2 s2 n2 ey em ed eh ei es en = cc

one_stamp : (fs : List (List ℕ)) (s t : Stamp) → IsStamp fs s → IsStamp fs t → s ≡ t
one_stamp fs s t p q =
    let date = date_once (at fs 1) s.day s.month p.date.number t.day t.month q.date.number p.date.text q.date.text in
    let time = time_once (at fs 2) s.hour s.minute s.second s.nanos t.hour t.minute t.second t.nanos p.time.text q.time.text in
    let year : s.year ≡ t.year = p.date.year_is ∙ ap (λ (n : ℕ). pos n) date.2 ∙ sym q.date.year_is in
    same_stamp s.year s.month s.day s.hour s.minute s.second s.nanos t.year t.month t.day t.hour t.minute t.second t.nanos year date.1 date.0 time.0 time.1 time.2 time.3

abbrev config_of : List ℕ → List ℕ → List Analog → List Digital → DecimalValue → Rate → ℕ → Stamp → Stamp → Form → DecimalValue → Config
config_of station device analog digital lf rate endsamp first trigger form timemult =
    record { station = station; device = device; analog = analog; digital = digital; lf = lf; rate = rate; endsamp = endsamp; first = first; trigger = trigger; form = form; timemult = timemult }

same_config : (s1 d1 : List ℕ) (a1 : List Analog) (g1 : List Digital) (l1 : DecimalValue) (r1 : Rate) (e1 : ℕ) (f1 t1 : Stamp) (w1 : Form) (m1 : DecimalValue)
    (s2 d2 : List ℕ) (a2 : List Analog) (g2 : List Digital) (l2 : DecimalValue) (r2 : Rate) (e2 : ℕ) (f2 t2 : Stamp) (w2 : Form) (m2 : DecimalValue)
    → s1 ≡ s2 → d1 ≡ d2 → a1 ≡ a2 → g1 ≡ g2 → l1 ≡ l2 → r1 ≡ r2 → e1 ≡ e2 → f1 ≡ f2 → t1 ≡ t2 → w1 ≡ w2 → m1 ≡ m2
    → config_of s1 d1 a1 g1 l1 r1 e1 f1 t1 w1 m1 ≡ config_of s2 d2 a2 g2 l2 r2 e2 f2 t2 w2 m2
same_config s1 d1 a1 g1 l1 r1 e1 f1 t1 w1 m1 s2 d2 a2 g2 l2 r2 e2 f2 t2 w2 m2 es ed ea eg el er ee ef et ew em = cc

-- both lines at one place write one value
both_lines : {A : Type 0} (bytes : List ℕ) (k : ℕ) (P : List (List ℕ) → A → Type 0) (x y : A) → ((fs : List (List ℕ)) → P fs x → P fs y → x ≡ y)
    → HasLine bytes k (λ fs. P fs x) → HasLine bytes k (λ fs. P fs y) → x ≡ y
both_lines {A} bytes k P x y one a b = one b.0 (subst (λ (fs : List (List ℕ)). P fs x) (one_line bytes k a.0 b.0 a.1 b.1) a.2) b.2

-- a field writes one rate
rate_once : (f : List ℕ) (r s : Rate) → IsRate f r → IsRate f s → r ≡ s
rate_once f R2400 R2400 a b = refl
rate_once f R2400 R4800 a b = absurd (omega (arith, ints, decimal_once f _ _ a b))
rate_once f R4800 R2400 a b = absurd (omega (arith, ints, decimal_once f _ _ a b))
rate_once f R4800 R4800 a b = refl

one_settings : (bytes : List ℕ) (k : ℕ) (c d : Config) → c.station ≡ d.station → c.device ≡ d.device → c.analog ≡ d.analog → c.digital ≡ d.digital → AreSettings bytes k c → AreSettings bytes k d → c ≡ d
one_settings bytes k c d station device analog digital p q =
    let lf : c.lf.n ≡ d.lf.n = both_lines bytes k IsLineFrequency c.lf.n d.lf.n (λ fs a b. decimal_once (at fs 1) c.lf.n d.lf.n a.value.value b.value.value) p.frequency q.frequency in
    let sampling : IsSampling q.sampling.0 c.rate c.endsamp = subst (λ (fs : List (List ℕ)). IsSampling fs c.rate c.endsamp) (one_line bytes (k + 2) p.sampling.0 q.sampling.0 p.sampling.1 q.sampling.1) p.sampling.2 in
    let rate : c.rate ≡ d.rate = rate_once (at q.sampling.0 1) c.rate d.rate sampling.rate_is q.sampling.2.rate_is in
    let endsamp : c.endsamp ≡ d.endsamp = whole_from_once 1 _ (at q.sampling.0 2) c.endsamp d.endsamp sampling.samples q.sampling.2.samples in
    let first : c.first ≡ d.first = both_lines bytes (k + 3) IsStamp c.first d.first (λ fs a b. one_stamp fs c.first d.first a b) p.first q.first in
    let trigger : c.trigger ≡ d.trigger = both_lines bytes (k + 4) IsStamp c.trigger d.trigger (λ fs a b. one_stamp fs c.trigger d.trigger a b) p.trigger q.trigger in
    let form : c.form ≡ d.form = both_lines bytes (k + 5) IsFileType c.form d.form (λ fs a b. form_once (at fs 1) c.form d.form a.word b.word) p.file_type q.file_type in
    let last : IsMultiplier q.last.0 c.timemult.n = subst (λ (fs : List (List ℕ)). IsMultiplier fs c.timemult.n) (one_last_line bytes (k + 6) p.last.0 q.last.0 p.last.1 q.last.1) p.last.2 in
    let timemult : c.timemult.n ≡ d.timemult.n = decimal_once (at q.last.0 1) c.timemult.n d.timemult.n last.value q.last.2.value in
    same_config c.station c.device c.analog c.digital c.lf c.rate c.endsamp c.first c.trigger c.form c.timemult d.station d.device d.analog d.digital d.lf d.rate d.endsamp d.first d.trigger d.form d.timemult station
    device analog digital (value_is c.lf d.lf lf) rate endsamp first trigger form (value_is c.timemult d.timemult timemult)

pub one_config : (bytes : List ℕ) (c d : Config) → IsConfig bytes c → IsConfig bytes d → c ≡ d
one_config bytes c d p q =
    let n = counts_at_once bytes (length c.analog) (length c.digital) (length d.analog) (length d.digital) p.counts q.counts in
    let title : IsTitle q.title.0 c.station c.device = subst (λ (fs : List (List ℕ)). IsTitle fs c.station c.device) (one_line bytes 0 p.title.0 q.title.0 p.title.1 q.title.1) p.title.2 in
    let station : c.station ≡ d.station = title.station_is.is ∙ sym q.title.2.station_is.is in
    let device : c.device ≡ d.device = title.device_is.is ∙ sym q.title.2.device_is.is in
    let analog : c.analog ≡ d.analog = one_analogs bytes 2 c.analog d.analog n.0 p.analogs q.analogs in
    let digitals : AreDigitals bytes (2 + length d.analog) c.digital = subst (λ (k : ℕ). AreDigitals bytes (2 + k) c.digital) n.0 p.digitals in
    let digital : c.digital ≡ d.digital = one_digitals bytes (2 + length d.analog) c.digital d.digital n.1 digitals q.digitals in
    let one : AreSettings bytes (2 + length d.analog + length c.digital) c = subst (λ (k : ℕ). AreSettings bytes (2 + k + length c.digital) c) n.0 p.settings in
    let two : AreSettings bytes (2 + length d.analog + length d.digital) c = subst (λ (k : ℕ). AreSettings bytes (2 + length d.analog + k) c) n.1 one in
    one_settings bytes (2 + length d.analog + length d.digital) c d station device analog digital two q.settings
