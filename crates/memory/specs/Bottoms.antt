-- What the bottoms mean: cells in their order, each at the place of its number.
use Rattle.std.specs.Prelude.{ℕ, ◌*◌, ◌/◌, ◌≤◌, min, Bool, List, [], length, drop}
use Rattle.std.specs.Borrow.{MutBor}
use Rattle.std.proofs.Common.{arith, lit≤}
use Rattle.memory.specs.Mem.{Mem, Sound}
use Rattle.bits.specs.Bits.{bit_at}

-- The largest number of cells and of places.
abbrev pub most : ℕ
most = 262144

-- n cells that are their own bottom, with what is lent and what lies past the last cell.
abbrev pub plain : ℕ → ℕ → List ℕ → (ℕ → Bool) → Mem
plain n lent past b = record {
  layout = record { cells = n; span = n; place = λ k. k; bottom = record { cells = n; place = λ k. k; lent = lent; past = past } };
  bit = b;
  held = b;
}

-- The cells of numbers of w bits that are lent under a ghost name: all of them, or the first 262144. What lies past those is part of
-- what never changes.
abbrev pub packed_cells : ℕ → ℕ → List ℕ → Mem
packed_cells w lent xs = plain (min (w * length xs) most) lent (drop (most / w) xs) (bit_at w xs)

-- The cells of a lent slice of numbers of w bits.
abbrev pub lent_cells : ℕ → MutBor (List ℕ) → Mem
lent_cells w s = packed_cells w s.ghost_name s.now

-- The 4096 cells of 512 bytes that nobody lends.
abbrev pub own_cells : List ℕ → Mem
own_cells xs = plain 4096 0 [] (bit_at 8 xs)

-- Both meet the laws of every memory.
pub plain-sound : (n lent : ℕ) (past : List ℕ) (b : ℕ → Bool) → n ≤ most → Sound (plain n lent past b).layout
plain-sound n lent past b h = record { small = h; room = omega arith; within = λ k lt. lt; apart = λ i j _ _ e. e }

pub packed_sound : (w lent : ℕ) (xs : List ℕ) → Sound (packed_cells w lent xs).layout
packed_sound w lent xs = plain-sound (min (w * length xs) most) lent (drop (most / w) xs) (bit_at w xs) (omega arith)

pub lent_sound : (w : ℕ) (s : MutBor (List ℕ)) → Sound (lent_cells w s).layout
lent_sound w s = packed_sound w s.ghost_name s.now

pub own_sound : (xs : List ℕ) → Sound (own_cells xs).layout
own_sound xs = plain-sound 4096 0 [] (bit_at 8 xs) (lit≤ tt)
