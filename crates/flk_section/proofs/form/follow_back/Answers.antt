use Rattle.std.proofs.Common.{rules, ◌≡◌, ◌+◌, ◌-◌, ◌^◌, ◌<◌, ℕ, pos, length, map, refl, sym, subst, arith, to_z}
use Rattle.std.specs.Int.{w128}
use Rattle.std.specs.Int.RustNames.{unsigned_abs}
use Rattle.flk_cert.specs.Gain.{gain_numbers}
use Rattle.flk_section.specs.Forms.{no_form, AreSmallNumbers, StaySmallNumbers}
use Rattle.flk_section.specs.Chain.{chain_samples}
use Rattle.flk_section.specs.Followed.{IsSampleBack, IsFollowed}
use Rattle.flk_section.proofs.Held.{none_iff}
use Rattle.flk_section.proofs.FormLemmas.{IsFollowing, following_begin, following_step, not_following, following_end, one_left}
use Rattle.flk_section.proofs.form.follow_back.Goals as goal

pub loop-init : goal.loop-init
loop-init c = record {
  all = c.chain_samples-end.ensures.value;
  few = c.chain_samples-end.ensures.small;
  following = following_begin c.args.gains.now c.chain_samples-end.result (c.chain_samples-end.result - 0) c.requires (omega arith);
}

pub sample_back-requires-clause-form : goal.sample_back-requires-clause-form
sample_back-requires-clause-form c = c.loop.invariant.following.small_form

pub returns-in_err-sample-clause-some : goal.returns-in_err-sample-clause-some
returns-in_err-sample-clause-some c =
    let G = map gain_numbers c.args.gains.now in
    let N = c.chain_samples-end.result in
    let z = to_z w128 c.loop.z-bits in
    let large : ¬ AreSmallNumbers z G c.loop.form = (λ h. let t = c.in_err-sample.ensures.some.1 h in cc) in
    let never : ¬ StaySmallNumbers (pos (2 ^ 32)) G (no_form G) N =
    not_following G c.loop.form (no_form G) z (pos (2 ^ 32)) (N - c.loop.counter) N c.loop.weights c.loop.shares (N - (c.loop.counter + 1)) (one_left N c.loop.counter c.loop-test.true) c.loop.invariant.following large in
    none_iff c.from_residual.result c.from_residual.ensures (subst (λ (m : ℕ). ¬ StaySmallNumbers (pos (2 ^ 32)) G (no_form G) m) c.chain_samples-end.ensures.value never)

pub overflow_add-weights : goal.overflow_add-weights
overflow_add-weights c =
    let small = c.loop.invariant.following.small_weights in
    let few = c.loop.invariant.few in
    let one : unsigned_abs c.in_ok-sample.sample.weight < 2 ^ 60 = c.in_ok-sample.ensures.value.small_weight in
    let is : c.unsigned_abs-weights.result < 2 ^ 60 = search rules in
    omega (arith, small, few, is)

pub loop-preserved : goal.loop-preserved
loop-preserved c =
    let G = map gain_numbers c.args.gains.now in
    let N = c.chain_samples-end.result in
    let z = to_z w128 c.loop.z-bits in
    let s = c.in_ok-sample.sample in
    let six : length s.form ≡ 6 = search rules in
    let sample : IsSampleBack z G c.loop.form s = c.in_ok-sample.ensures.value in
    let small : AreSmallNumbers z G c.loop.form = c.in_ok-sample.ensures.some.0 refl in
    let size : c.unsigned_abs-weights.result ≡ unsigned_abs s.weight = search rules in
    let step = following_step G c.loop.form (no_form G) z (pos (2 ^ 32)) (N - c.loop.counter) N c.loop.weights c.loop.shares (N - (c.loop.counter + 1)) s six (one_left N c.loop.counter c.loop-test.true) c.loop.invariant.following small sample in
    record {
      all = c.loop.invariant.all;
      few = c.loop.invariant.few;
      following = subst (λ (n : ℕ). IsFollowing G s.form (no_form G) (pos 0) (pos (2 ^ 32)) (N - (c.loop.counter + 1)) N (c.loop.weights + n) (c.loop.shares + s.share)) (sym size) step;
    }

-- all samples are done
ended : (c : goal.After-loop) → StaySmallNumbers (pos (2 ^ 32)) (map gain_numbers c.args.gains.now) (no_form (map gain_numbers c.args.gains.now)) chain_samples
    × IsFollowed (pos (2 ^ 32)) (map gain_numbers c.args.gains.now) (no_form (map gain_numbers c.args.gains.now)) chain_samples (record { form = c.loop.form; weights = c.loop.weights; shares = c.loop.shares })
ended c =
    let G = map gain_numbers c.args.gains.now in
    let N = c.chain_samples-end.result in
    let none : N - c.loop.counter ≡ 0 = omega (arith, c.loop-test.false) in
    let end = following_end G c.loop.form (no_form G) (to_z w128 c.loop.z-bits) (pos (2 ^ 32)) (N - c.loop.counter) N c.loop.weights c.loop.shares none c.loop.invariant.following in
    subst (λ (m : ℕ). StaySmallNumbers (pos (2 ^ 32)) G (no_form G) m × IsFollowed (pos (2 ^ 32)) G (no_form G) m (record { form = c.loop.form; weights = c.loop.weights; shares = c.loop.shares }))
    c.chain_samples-end.ensures.value end

pub returns-clause-some : goal.returns-clause-some
returns-clause-some c = (λ h. (ended c).0, λ h. refl)

pub returns-clause-value : goal.returns-clause-value
returns-clause-value c = (ended c).1
