-- Cells packed in numbers of w bits, the least bit first.
use Rattle.std.specs.Prelude.{◌≡◌, ℕ, ◌+◌, ◌*◌, ◌<◌, ◌≤◌, Bool, List, drop, Ok, Err, Result, slice_index}
use Rattle.refusal.specs.declared.Refusal.{Refusal}
use Rattle.refusal.specs.declared.Refusal.TheVariants.{Cell}
use Rattle.bits.specs.Bits.{bit_of, bit_at}
use Rattle.memory.specs.Mem.{turned, in_run}

-- The law of `bit_at`, by digits: bit j of number q is cell q * w + j.
abbrev pub PackedBits : ℕ → List ℕ → (ℕ → Bool) → Type 0
PackedBits w xs cell = (q j : ℕ) → j < w → cell (q * w + j) ≡ bit_of (slice_index xs q) j

-- ys is xs with the n cells from a on turned, and no number past them differs.
pub record Turned (w : ℕ) (xs ys : List ℕ) (a n : ℕ) : Type 0 where
  pub bits : (i : ℕ) → bit_at w ys i ≡ turned (in_run a n i) (bit_at w xs i)
  pub rest : (p : ℕ) → a + n ≤ w * p → drop p ys ≡ drop p xs

-- Turning the n cells from a on, of the first `cells`.
abbrev pub RunTurned : {U : Type 0} → (w cells : ℕ) (xs ys : List ℕ) (a n : ℕ) → Result U Refusal → Type 0
RunTurned w cells xs ys a n (Ok u) = (a + n ≤ cells) × Turned w xs ys a n
RunTurned w cells xs ys a n (Err e) = (cells < a + n) × (e ≡ Cell) × (ys ≡ xs)
