-- Words ask for one command at most, whose inputs have names that differ.
use Rattle.std.proofs.Common.{◌≡◌, ℕ, ◌*◌, ◌≤◌, List, length, get_or, refl, sym, ap, subst, ◌∙◌, arith, inl, inr}
use Rattle.std.proofs.Math.Bridge.{le_prop}
use Rattle.flk_num.specs.declared.lamp.Lamp.{Lamp}
use Rattle.flk_num.specs.declared.lamp.Lamp.TheVariants.{L230, L120}
use Rattle.flk_num.specs.declared.rate.Rate.{Rate}
use Rattle.flk_num.specs.declared.rate.Rate.TheVariants.{R2400, R4800}
use Rattle.flk_scale.specs.declared.supply.Supply.{Supply}
use Rattle.flk_cfg.specs.Canonical.{rate_text}
use Rattle.flk_job.specs.Table.{lamp_name}
use Rattle.flk_top.specs.Command.{IsNumberIn, IsCheck, AsksRate, IsTables, IsReport, IsGen, Asks, inputs_of}
use Rattle.flk_top.specs.declared.command.GenCommand.{GenCommand}
use Rattle.flk_top.specs.declared.command.LevelsCommand.{LevelsCommand}
use Rattle.flk_top.specs.declared.command.ReportCommand.{ReportCommand}
use Rattle.flk_top.specs.declared.command.Command.{Command}
use Rattle.flk_top.specs.declared.command.Command.TheVariants.{Levels, Check, Tables, Report, Gen}
use Rattle.flk_top.proofs.AgreeingFiles.{AreApart}

-- a word has one number
pub one_number : (low high a b : ℕ) (word : List ℕ) (m n : ℕ) → IsNumberIn low high word m → IsNumberIn a b word n → m ≡ n
one_number low high a b word m n h k = sym h.number.value ∙ k.number.value

-- two texts that differ in the character at a place
differs_at : {A : Type 0} (i a b : ℕ) (xs ys : List ℕ) → xs ≡ ys → get_or xs i 0 ≡ a → get_or ys i 0 ≡ b → ¬ (a ≡ b) → A
differs_at i a b xs ys same here there other = absurd (other (sym here ∙ ap (λ zs. get_or zs i 0) same ∙ there))

-- the words of the lamps, and of the rates, differ
one_lamp : (text : List ℕ) (a b : Lamp) → text ≡ lamp_name a → text ≡ lamp_name b → a ≡ b
one_lamp text L230 L230 h k = refl
one_lamp text L230 L120 h k = differs_at 0 50 49 (lamp_name L230) (lamp_name L120) (sym h ∙ k) refl refl (λ e. omega (arith, e))
one_lamp text L120 L230 h k = differs_at 0 49 50 (lamp_name L120) (lamp_name L230) (sym h ∙ k) refl refl (λ e. omega (arith, e))
one_lamp text L120 L120 h k = refl

one_rate_text : (text : List ℕ) (a b : Rate) → text ≡ rate_text a → text ≡ rate_text b → a ≡ b
one_rate_text text R2400 R2400 h k = refl
one_rate_text text R2400 R4800 h k = differs_at 0 50 52 (rate_text R2400) (rate_text R4800) (sym h ∙ k) refl refl (λ e. omega (arith, e))
one_rate_text text R4800 R2400 h k = differs_at 0 52 50 (rate_text R4800) (rate_text R2400) (sym h ∙ k) refl refl (λ e. omega (arith, e))
one_rate_text text R4800 R4800 h k = refl

one_rate : (words : List (List ℕ)) (a b : Rate) → AsksRate words a → AsksRate words b → a ≡ b
one_rate words a b (inl h) (inl k) = h.1 ∙ sym k.1
one_rate words a b (inl h) (inr k) = absurd (omega (arith, h.0, k.0))
one_rate words a b (inr h) (inl k) = absurd (omega (arith, h.0, k.0))
one_rate words a b (inr h) (inr k) = one_rate_text _ a b h.1 k.1

check_or_tables : {A : Type 0} (words : List (List ℕ)) (lamp : Lamp) (rate : Rate) → IsCheck words → IsTables words lamp rate → A
check_or_tables words lamp rate h k = differs_at 0 99 116 _ _ (sym h.command ∙ k.command) refl refl (λ e. omega (arith, e))

few_words : (words : List (List ℕ)) (lamp : Lamp) (rate : Rate) → IsTables words lamp rate → length words ≤ 3
few_words words lamp rate h = elim h.rate_is [ inl asks ↦ omega (arith, asks.0) | inr asks ↦ omega (arith, asks.0) ]

-- a supply is its two numbers
pub same_supply : (a b : Supply) → a.nominal_mv ≡ b.nominal_mv → a.uncertainty_uv ≡ b.uncertainty_uv → a ≡ b
same_supply a b nominal uncertainty =
    subst (λ (n : ℕ). (low : 1000 ≤ n) (high : n ≤ 1000000) (far : b.uncertainty_uv ≤ 10 * n)
    → a ≡ record { nominal_mv = n; uncertainty_uv = b.uncertainty_uv; nominal_low = low; nominal_high = high; uncertainty_high = far })
    nominal
    (subst (λ (u : ℕ). (low : 1000 ≤ a.nominal_mv) (high : a.nominal_mv ≤ 1000000) (far : u ≤ 10 * a.nominal_mv)
    → a ≡ record { nominal_mv = a.nominal_mv; uncertainty_uv = u; nominal_low = low; nominal_high = high; uncertainty_high = far })
    uncertainty
    (λ low high far. λ i. record {
      nominal_mv = a.nominal_mv;
      uncertainty_uv = a.uncertainty_uv;
      nominal_low = le_prop a.nominal_low low i;
      nominal_high = le_prop a.nominal_high high i;
      uncertainty_high = le_prop a.uncertainty_high far i;
    }))
    b.nominal_low b.nominal_high b.uncertainty_high

same_levels : (a b : LevelsCommand) → a.channel ≡ b.channel → a.supply ≡ b.supply → a ≡ b
same_levels a b channel supply = λ i. record { channel = channel i; supply = supply i }

same_report : (a b : ReportCommand) → a.workers ≡ b.workers → a ≡ b
same_report a b workers = λ i. record { workers = workers i }

same_gen : (a b : GenCommand) → a.seed ≡ b.seed → a.seconds ≡ b.seconds → a ≡ b
same_gen a b seed seconds = λ i. record { seed = seed i; seconds = seconds i }

report_or_gen : {A : Type 0} (words : List (List ℕ)) (workers seed seconds : ℕ) → IsReport words workers → IsGen words seed seconds → A
report_or_gen words workers seed seconds h k = differs_at 0 114 103 _ _ (sym h.command ∙ k.command) refl refl (λ e. omega (arith, e))

pub one_command : (words : List (List ℕ)) (p q : Command) → Asks words p → Asks words q → p ≡ q
one_command words (Levels a) (Levels b) h k =
    ap Levels (same_levels a b (one_number _ _ _ _ _ _ _ h.channel_word k.channel_word)
    (same_supply a.supply b.supply (one_number _ _ _ _ _ _ _ h.nominal_word k.nominal_word) (one_number _ _ _ _ _ _ _ h.uncertainty_word k.uncertainty_word)))
one_command words (Levels a) Check h k = absurd (omega (arith, h.count, k.count))
one_command words (Levels a) (Tables lamp rate) h k = absurd (omega (arith, few_words words lamp rate k, h.count))
one_command words Check (Levels b) h k = absurd (omega (arith, h.count, k.count))
one_command words Check Check h k = refl
one_command words Check (Tables lamp rate) h k = check_or_tables words lamp rate h k
one_command words (Tables lamp rate) (Levels b) h k = absurd (omega (arith, few_words words lamp rate h, k.count))
one_command words (Tables lamp rate) Check h k = check_or_tables words lamp rate k h
one_command words (Tables lamp rate) (Tables other second) h k =
    ap (λ l. Tables l rate) (one_lamp _ lamp other h.lamp_is k.lamp_is) ∙ ap (λ r. Tables other r) (one_rate words rate second h.rate_is k.rate_is)
one_command words (Levels a) (Report b) h k = absurd (omega (arith, h.count, k.count))
one_command words Check (Report b) h k = absurd (omega (arith, h.count, k.count))
one_command words (Tables lamp rate) (Report b) h k = absurd (omega (arith, few_words words lamp rate h, k.count))
one_command words (Report a) (Levels b) h k = absurd (omega (arith, h.count, k.count))
one_command words (Report a) Check h k = absurd (omega (arith, h.count, k.count))
one_command words (Report a) (Tables lamp rate) h k = absurd (omega (arith, few_words words lamp rate k, h.count))
one_command words (Report a) (Report b) h k = ap Report (same_report a b (one_number _ _ _ _ _ _ _ h.workers_word k.workers_word))
one_command words (Levels a) (Gen b) h k = absurd (omega (arith, h.count, k.count))
one_command words Check (Gen b) h k = absurd (omega (arith, h.count, k.count))
one_command words (Tables lamp rate) (Gen b) h k = absurd (omega (arith, few_words words lamp rate h, k.count))
one_command words (Report a) (Gen b) h k = report_or_gen words a.workers b.seed b.seconds h k
one_command words (Gen a) (Levels b) h k = absurd (omega (arith, h.count, k.count))
one_command words (Gen a) Check h k = absurd (omega (arith, h.count, k.count))
one_command words (Gen a) (Tables lamp rate) h k = absurd (omega (arith, few_words words lamp rate k, h.count))
one_command words (Gen a) (Report b) h k = report_or_gen words b.workers a.seed a.seconds k h
one_command words (Gen a) (Gen b) h k = ap Gen (same_gen a b (one_number _ _ _ _ _ _ _ h.seed_word k.seed_word) (one_number _ _ _ _ _ _ _ h.seconds_word k.seconds_word))

-- no input of a command stands twice
pub inputs_apart : (words : List (List ℕ)) (q : Command) → Asks words q → AreApart (inputs_of q words)
inputs_apart words (Levels command) asks = ((asks.names, tt), (tt, tt))
inputs_apart words Check asks = ((asks.names, tt), (tt, tt))
inputs_apart words (Tables lamp rate) asks = tt
inputs_apart words (Report command) asks =
    ((asks.names.job_configuration, (asks.names.job_data, tt)), ((asks.names.configuration_data, tt), (tt, tt)))
inputs_apart words (Gen command) asks = tt
