use Rattle.std.proofs.Common.{◌≡◌, ℕ, ◌+◌, ◌-◌, ◌^◌, ◌<◌, length, get_or}
use Rattle.galois.specs.House.{house}
use Rattle.galois.specs.Model.{power}
use Rattle.field.proofs.table.TableField.new.Given as goal

-- the tables hold the powers below p
abbrev pub invariant-loop-p : goal.invariant-loop-p
invariant-loop-p l =
    (l.y ≡ power (house l.base.m) l.p)
    × (length l.powers ≡ 512)
    × (length l.exponents ≡ 256)
    × ((q : ℕ) → q < l.p → get_or l.powers q 0 ≡ power (house l.base.m) q)
    × ((q : ℕ) → q < l.p → get_or l.powers (q + l.n) 0 ≡ power (house l.base.m) q)
    × ((q : ℕ) → q < l.p → get_or l.exponents (power (house l.base.m) q) 0 ≡ q)
    × (get_or l.exponents 0 0 ≡ 2 ^ l.base.m - 1)
