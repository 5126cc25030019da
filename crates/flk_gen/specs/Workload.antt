-- The generated workload: three sines of 50 Hz at 2400 samples a second, lowered by depths that are drawn twice a
-- second.
use Rattle.std.specs.Prelude.{ℕ, zero, suc, ◌+◌, ◌-◌, ◌*◌, ◌/◌, ◌%◌, ◌^◌, leb, ltb, List, [], ◌∷◌, get_or, if◌then◌else◌, ℤ, pos, neg_ℤ, ◌*ℤ◌}
use Rattle.flk_exact.specs.Rounding.{floor_of}

-- ---- the draws

-- a linear congruential generator modulo 2^32
abbrev pub next_draw : ℕ → ℕ
next_draw s = (1664525 * s + 1013904223) % 2 ^ 32

-- the draw with this number, counted from 1; number 0 is the seed
abbrev pub draw : ℕ → ℕ → ℕ
draw seed zero = seed
draw seed (suc i) = next_draw (draw seed i)

-- by how many thousandths a draw lowers channel c: 0, 3, 6 or 9, from two of its higher bits
abbrev pub depth_of : ℕ → ℕ → ℕ
depth_of s c = 3 * (s / 2 ^ (16 + 2 * c) % 4)

-- ---- the sine

-- a quarter of a period in 12 steps, in units of 0.0125 V: from 0 to the crest of a sine of 230 V
abbrev pub quarter : List ℕ
quarter = 0 ∷ 3397 ∷ 6735 ∷ 9958 ∷ 13011 ∷ 15841 ∷ 18400 ∷ 20645 ∷ 22536 ∷ 24041 ∷ 25135 ∷ 25799 ∷ 26022 ∷ []

-- half a period in 24 steps: the quarter, and then the quarter backwards
abbrev pub half_wave : ℕ → ℕ
half_wave k = get_or quarter (if leb k 12 then k else 24 - k) 0

-- a period in 48 steps: the half, and then the half below 0
abbrev pub wave : ℕ → ℤ
wave k = if ltb k 24 then pos (half_wave k) else neg_ℤ (pos (half_wave (k - 24)))

-- v lowered by d thousandths, rounded down
abbrev pub lowered : ℤ → ℕ → ℤ
lowered v d = floor_of (v *ℤ pos (1000 - d)) (pos 1000)

-- ---- the channels

-- how many samples channel c is ahead of channel 0: a third of a period, or two thirds
abbrev pub shift : ℕ → ℕ
shift c = get_or (0 ∷ 32 ∷ 16 ∷ []) c 0

-- the value of channel c at sample n, counted from 0
abbrev pub value : ℕ → ℕ → ℕ → ℤ
value seed c n = lowered (wave ((n + shift c) % 48)) (depth_of (draw seed (1 + (n + shift c) / 1200)) c)

-- the values of the three channels at sample n
abbrev pub values : ℕ → ℕ → List ℤ
values seed n = value seed 0 n ∷ value seed 1 n ∷ value seed 2 n ∷ []
