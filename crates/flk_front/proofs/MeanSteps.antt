-- The step of the mean, over natural numbers.
use Rattle.std.proofs.Common.{◌≡◌, ℕ, ◌+◌, ◌*◌, ◌<◌, ◌≤◌, ap, arith}
use Rattle.std.proofs.Math.Nat.{mul-le-mul_left, mul-le-mul_right, le_of_mul-le-mul_left}

-- Over delta, the mean before a sample is mu, the one after it is mu', and the square is nu. Of one end of the rounded numbers, M is the
-- mean before, M' the one after, Q the square, f a part in 2^e of M, and Q' a part in gain of Q. w is 2^48, c is 2^16, gain is 2^(e-16),
-- and less is 2^e - 1.

-- ---- the ends hold the mean

pub upper_kept : (c gain less w delta mu mu' nu M M' Q Q' f : ℕ)
    → less + 1 ≡ c * gain
    → (less + 1) * mu' ≡ less * mu + nu
    → c * w * mu ≤ M * delta
    → w * nu ≤ Q * delta
    → (less + 1) * f ≤ M → Q ≤ gain * Q'
    → M' + f ≡ M + Q'
    → c * w * mu' ≤ M' * delta
upper_kept c gain less w delta mu mu' nu M M' Q Q' f hb hm hM hQ hf hq hs =
    let a = mul-le-mul_right delta hf in
    let b = mul-le-mul_right (c * delta) hq in
    let q = mul-le-mul_left c hQ in
    let d : (less + 1) * ((M' + f) * delta) ≡ (less + 1) * ((M + Q') * delta) = ap (λ (n : ℕ). (less + 1) * (n * delta)) hs in
    let g : (less + 1) * (Q' * delta) ≡ c * gain * (Q' * delta) = ap (λ (n : ℕ). n * (Q' * delta)) hb in
    let m : c * w * ((less + 1) * mu') ≡ c * w * (less * mu + nu) = ap (λ (n : ℕ). c * w * n) hm in
    let h2 = mul-le-mul_left less hM in
    let p : 0 < less + 1 = omega arith in
    le_of_mul-le-mul_left {k = less + 1} (omega arith) p

pub lower_kept : (c gain less w delta mu mu' nu M M' Q Q' f : ℕ)
    → less + 1 ≡ c * gain
    → (less + 1) * mu' ≡ less * mu + nu
    → M * delta ≤ c * w * mu
    → Q * delta ≤ w * nu
    → M ≤ (less + 1) * f → gain * Q' ≤ Q
    → M' + f ≡ M + Q'
    → M' * delta ≤ c * w * mu'
lower_kept c gain less w delta mu mu' nu M M' Q Q' f hb hm hM hQ hf hq hs =
    let a = mul-le-mul_right delta hf in
    let b = mul-le-mul_right (c * delta) hq in
    let q = mul-le-mul_left c hQ in
    let d : (less + 1) * ((M' + f) * delta) ≡ (less + 1) * ((M + Q') * delta) = ap (λ (n : ℕ). (less + 1) * (n * delta)) hs in
    let g : (less + 1) * (Q' * delta) ≡ c * gain * (Q' * delta) = ap (λ (n : ℕ). n * (Q' * delta)) hb in
    let m : c * w * ((less + 1) * mu') ≡ c * w * (less * mu + nu) = ap (λ (n : ℕ). c * w * n) hm in
    let h2 = mul-le-mul_left less hM in
    let p : 0 < less + 1 = omega arith in
    le_of_mul-le-mul_left {k = less + 1} (omega arith) p

-- ---- each end is at most 2^64 kappa + 2 * 2^e * delta away from the mean, where the end's square is about kappa away from the exact one

pub upper_near : (c gain less w delta mu mu' nu kappa M M' Q Q' f : ℕ)
    → less + 1 ≡ c * gain
    → (less + 1) * mu' ≡ less * mu + nu
    → M * delta ≤ c * w * mu + c * w * kappa + 2 * (less + 1) * delta
    → Q * delta ≤ w * nu + w * kappa + delta
    → M ≤ (less + 1) * f + less → gain * Q' + 1 ≤ Q + gain
    → M' + f ≡ M + Q'
    → M' * delta ≤ c * w * mu' + c * w * kappa + 2 * (less + 1) * delta
upper_near c gain less w delta mu mu' nu kappa M M' Q Q' f hb hm hM hQ hf hq hs =
    let a = mul-le-mul_right delta hf in
    let b = mul-le-mul_right (c * delta) hq in
    let q = mul-le-mul_left c hQ in
    let d : (less + 1) * ((M' + f) * delta) ≡ (less + 1) * ((M + Q') * delta) = ap (λ (n : ℕ). (less + 1) * (n * delta)) hs in
    let g : (less + 1) * (Q' * delta) ≡ c * gain * (Q' * delta) = ap (λ (n : ℕ). n * (Q' * delta)) hb in
    let g2 : (less + 1) * delta ≡ c * gain * delta = ap (λ (n : ℕ). n * delta) hb in
    let m : c * w * ((less + 1) * mu') ≡ c * w * (less * mu + nu) = ap (λ (n : ℕ). c * w * n) hm in
    let h2 = mul-le-mul_left less hM in
    let p : 0 < less + 1 = omega arith in
    le_of_mul-le-mul_left {k = less + 1} (omega arith) p

pub lower_near : (c gain less w delta mu mu' nu kappa M M' Q Q' f : ℕ)
    → less + 1 ≡ c * gain
    → (less + 1) * mu' ≡ less * mu + nu
    → c * w * mu ≤ M * delta + c * w * kappa + 2 * (less + 1) * delta
    → w * nu ≤ Q * delta + w * kappa + delta
    → (less + 1) * f ≤ M + less → Q + 1 ≤ gain * Q' + gain
    → M' + f ≡ M + Q'
    → c * w * mu' ≤ M' * delta + c * w * kappa + 2 * (less + 1) * delta
lower_near c gain less w delta mu mu' nu kappa M M' Q Q' f hb hm hM hQ hf hq hs =
    let a = mul-le-mul_right delta hf in
    let b = mul-le-mul_right (c * delta) hq in
    let q = mul-le-mul_left c hQ in
    let d : (less + 1) * ((M' + f) * delta) ≡ (less + 1) * ((M + Q') * delta) = ap (λ (n : ℕ). (less + 1) * (n * delta)) hs in
    let g : (less + 1) * (Q' * delta) ≡ c * gain * (Q' * delta) = ap (λ (n : ℕ). n * (Q' * delta)) hb in
    let g2 : (less + 1) * delta ≡ c * gain * delta = ap (λ (n : ℕ). n * delta) hb in
    let m : c * w * ((less + 1) * mu') ≡ c * w * (less * mu + nu) = ap (λ (n : ℕ). c * w * n) hm in
    let h2 = mul-le-mul_left less hM in
    let p : 0 < less + 1 = omega arith in
    le_of_mul-le-mul_left {k = less + 1} (omega arith) p
