-- The look-up between two entries: where an angle lies in a table, which entry is next, and what stands between the two.
use Rattle.std.specs.Prelude.{ℕ, ◌+◌, cond, ℤ, pos, ◌+ℤ◌, ◌-ℤ◌, ◌*ℤ◌, ◌≤ℤ◌, nat_lt}
use Rattle.std.specs.Int.{int_min, int_max}

-- The index of the entry after the one at i, of `entries` in all: the last entry is its own next. This line alone says which entry is next.
abbrev pub next_index : ℕ → ℕ → ℕ
next_index i entries = cond (nat_lt (i + 1) entries) (i + 1) i

-- The exact sum x + (y - x) * f / 65536, in 65536ths.
abbrev pub blended : ℤ → ℤ → ℕ → ℤ
blended x y f = x *ℤ pos 65536 +ℤ (y -ℤ x) *ℤ pos f

-- r lies between x and y, ends included.
abbrev pub Between : ℤ → ℤ → ℤ → Type 0
Between x y r = (int_min x y ≤ℤ r) × (r ≤ℤ int_max x y)
