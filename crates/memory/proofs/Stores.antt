-- What a write or a turned run of packed cells is to the memory that holds them, for numbers of any width w.
use Rattle.std.proofs.Common.{◌≡◌, ℕ, ◌*◌, ◌/◌, ◌<◌, min, Bool, List, length, map, drop, Ok, Err, Result, sym, refl, ap, ◌∙◌, arith, mul_assoc, MutBor}
use Rattle.std.proofs.Math.Nat.{mul-div_cancel_left}
use Rattle.std.proofs.lemmas.List.{length-map}
use Rattle.refusal.specs.declared.Refusal.{Refusal}
use Rattle.std.proofs.lemmas.Bool.{ne_eqb, cond-false}
use Rattle.memory.specs.Mem.{Layout, Put, Knocked}
use Rattle.bits.specs.Bits.{bit_at}
use Rattle.bits.specs.Calls.{Changed}
use Rattle.memory.specs.Packing.{RunTurned}
use Rattle.memory.specs.Bottoms.{most, plain, packed_cells, lent_cells}

pub length-numbers : {A : Type 0} (number : A → ℕ) (numbers : List A → List ℕ) → ((xs : List A) → numbers xs ≡ map number xs)
    → (xs : List A) → length (numbers xs) ≡ length xs
length-numbers number numbers each xs = rw (each, length-map)

-- where 64 bits fill whole numbers, the first 262144 cells do
pub whole_most : (w : ℕ) → 0 < w → w * (64 / w) ≡ 64 → w * (most / w) ≡ most
whole_most w wide whole =
    let e : most ≡ w * (64 / w * 4096) = omega (arith, whole, mul_assoc w (64 / w) 4096) in
    rw (e, mul-div_cancel_left (64 / w * 4096) wide)

module _ (w lent : ℕ) (xs ys : List ℕ) (whole : w * (most / w) ≡ most) (len : length ys ≡ length xs) where
  kept : drop (most / w) ys ≡ drop (most / w) xs → (packed_cells w lent ys).layout ≡ (packed_cells w lent xs).layout
  kept past = rw (len, past)

  pub lent_put : {U : Type 0} (i : ℕ) (v : Bool) (r : Result U Refusal) → i < min (w * length xs) most → Changed w (λ _. v) xs ys i r
      → Put (packed_cells w lent xs) (packed_cells w lent ys) i v r
  lent_put i v (Ok u) h p = (h, (kept (p.2 (most / w) (omega arith)), λ k lt. p.1 k), λ k lt ne. p.1 k ∙ cond-false _ _ _ (ne_eqb k i ne))
  lent_put i v (Err e) h p = absurd (omega arith)

  pub lent_knocked : {U : Type 0} (a n : ℕ) (r : Result U Refusal) → RunTurned w (min (w * length xs) most) xs ys a n r
      → Knocked (packed_cells w lent xs) (packed_cells w lent ys) a n r
  lent_knocked a n (Ok u) p = (p.0, (kept (p.1.rest (most / w) (omega arith)), λ k lt. p.1.bits k), λ k lt. p.1.bits k)
  lent_knocked a n (Err e) p = (p.0, p.1, rw p.2 ((refl, λ k lt. refl), λ b lt. refl))

-- A reference b that a slice was lent by has become b'; the owner calls the slice by another name, own.
module _ (w : ℕ) (b b' : MutBor (List ℕ)) (own : ℕ) where
  renamed : (lent_cells w b').layout ≡ (lent_cells w b).layout → (packed_cells w own b'.now).layout ≡ (packed_cells w own b.now).layout
  renamed e = ap (λ (l : Layout). (plain l.cells own l.bottom.past (bit_at w b.now)).layout) e

  owner_put : {U : Type 0} (i : ℕ) (v : Bool) (r : Result U Refusal) → Put (lent_cells w b) (lent_cells w b') i v r → Put (packed_cells w own b.now) (packed_cells w own b'.now) i v r
  owner_put i v (Ok u) q = (q.0, (renamed q.1.0, q.1.1), q.2)
  owner_put i v (Err e) q = (q.0, q.1, ((renamed q.2.0.0, q.2.0.1), q.2.1))

  owner_knocked : {U : Type 0} (a n : ℕ) (r : Result U Refusal) → Knocked (lent_cells w b) (lent_cells w b') a n r → Knocked (packed_cells w own b.now) (packed_cells w own b'.now) a n r
  owner_knocked a n (Ok u) q = (q.0, (renamed q.1.0, q.1.1), q.2)
  owner_knocked a n (Err e) q = (q.0, q.1, ((renamed q.2.0.0, q.2.0.1), q.2.1))

-- So the owner of the slice s, which ends as ys, knows what was done to it.
module _ (w : ℕ) (s b b' : MutBor (List ℕ)) (ys : List ℕ) {U : Type 0} where
  pub owner-learns-put : (i : ℕ) (v : Bool) (r : Result U Refusal) → b.now ≡ s.now → ys ≡ b'.now → Put (lent_cells w b) (lent_cells w b') i v r
      → Put (lent_cells w s) (packed_cells w s.ghost_name ys) i v r
  owner-learns-put i v r e f q = rw (sym e, f) (owner_put w b b' s.ghost_name i v r q)

  pub owner-learns-knock : (a n : ℕ) (r : Result U Refusal) → b.now ≡ s.now → ys ≡ b'.now → Knocked (lent_cells w b) (lent_cells w b') a n r
      → Knocked (lent_cells w s) (packed_cells w s.ghost_name ys) a n r
  owner-learns-knock a n r e f q = rw (sym e, f) (owner_knocked w b b' s.ghost_name a n r q)

-- Every call leaves the slice's name.
pub put-names : {U : Type 0} (w : ℕ) (b b' : MutBor (List ℕ)) (i : ℕ) (v : Bool) (r : Result U Refusal) → Put (lent_cells w b) (lent_cells w b') i v r → b'.ghost_name ≡ b.ghost_name
put-names w b b' i v (Ok u) q = ap (λ (l : Layout). l.bottom.lent) q.1.0
put-names w b b' i v (Err e) q = ap (λ (l : Layout). l.bottom.lent) q.2.0.0

pub knock_names : {U : Type 0} (w : ℕ) (b b' : MutBor (List ℕ)) (a n : ℕ) (r : Result U Refusal) → Knocked (lent_cells w b) (lent_cells w b') a n r → b'.ghost_name ≡ b.ghost_name
knock_names w b b' a n (Ok u) q = ap (λ (l : Layout). l.bottom.lent) q.1.0
knock_names w b b' a n (Err e) q = ap (λ (l : Layout). l.bottom.lent) q.2.0.0
