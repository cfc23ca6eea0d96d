-- What a buffer of bytes says: k cells of data, or nothing where it is no buffer for k bits.
use Rattle.std.specs.Prelude.{ℕ, ◌+◌, ◌-◌, ◌*◌, ◌/◌, Bool, true, cond, not, ◌&&◌, List, [], ◌∷◌, length, ◌==◌}
use Rattle.std.proofs.Math.Option.{Option, none, some}
use Rattle.bits.specs.Bits.{bit_at}
use Rattle.galois.specs.Lists.{tabulate}
use Rattle.bch.specs.Buffers.{shown}

-- no cell is set
abbrev pub unset : List Bool → Bool
unset [] = true
unset (x ∷ xs) = not x && unset xs

-- the bits of a buffer past the first k
abbrev pub past_bits : ℕ → List ℕ → List Bool
past_bits k buffer = tabulate (λ j. bit_at 8 buffer (k + j)) (8 * length buffer - k)

-- the k cells in a buffer: none if it has not (k + 7) div 8 bytes, or a bit past the k is set
unfoldable pub unpacked : ℕ → List ℕ → Option (List Bool)
unpacked k buffer = cond (length buffer == (k + 7) / 8 && unset (past_bits k buffer)) (some (shown k buffer)) none
