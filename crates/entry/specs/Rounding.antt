-- Rounding: the whole number that stands for an exact fraction, and the law that says which one it is.
use Rattle.std.specs.Prelude.{◌≡◌, ℕ, suc, ◌+◌, ◌*◌, ◌/◌, ◌≤◌, ℤ, pos, negsuc, ◌-ℤ◌, ◌*ℤ◌, neg_ℤ, unsigned_abs}

-- The whole number nearest n / d, a half going up. This line alone says what a half does.
abbrev pub rounded : ℕ → ℕ → ℕ
rounded n d = (2 * n + d) / (2 * d)

-- The whole number nearest z / d: its size is rounded and the sign stays, so a half goes away from zero.
abbrev pub nearest : ℤ → ℕ → ℤ
nearest (pos n) d = pos (rounded n d)
nearest (negsuc n) d = neg_ℤ (pos (rounded (suc n) d))

-- r is at most a half away from z / d.
abbrev pub WithinHalf : ℤ → ℕ → ℤ → Type 0
WithinHalf z d r = 2 * unsigned_abs (z -ℤ pos d *ℤ r) ≤ d

-- No whole number that near lies farther from zero: where z / d is halfway between two, r is the farther one.
abbrev pub HalfAway : ℤ → ℕ → ℤ → Type 0
HalfAway z d r = (s : ℤ) → WithinHalf z d s → unsigned_abs s ≤ unsigned_abs r

-- The law of rounding z / d to r: r is nearest; at a half it is the one farther from zero; no other whole number is both.
pub record Rounds (z : ℤ) (d : ℕ) (r : ℤ) : Type 0 where
  pub near : WithinHalf z d r
  pub away : HalfAway z d r
  pub only : (s : ℤ) → WithinHalf z d s → HalfAway z d s → s ≡ r
