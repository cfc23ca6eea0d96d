-- The cells of a memory as a list, and what writes, knocks and refusals are to that list.
use Rattle.std.specs.Prelude.{◌≡◌, ℕ, ◌<◌, Bool, cond, List, map, length, ◌==◌, slice_set}
use Rattle.std.specs.List.{range_with_len}
use Rattle.memory.specs.Mem.{Mem, Leaves}

-- What the cells show, from cell 0 up.
abbrev pub listed : Mem → List Bool
listed m = map m.bit (range_with_len 0 m.layout.cells)

-- The list has N elements, a write sets one of them, and what leaves each cell as it was leaves the list.
pub record ListLaws : Type 0 where
  pub count : (m : Mem) → length (listed m) ≡ m.layout.cells
  pub write : (m m' : Mem) (i : ℕ) (v : Bool) → i < m.layout.cells → Leaves m m' (λ k. cond (k == i) v (m.bit k)) → listed m' ≡ slice_set (listed m) i v
  pub keep : (m m' : Mem) → Leaves m m' m.bit → listed m' ≡ listed m
