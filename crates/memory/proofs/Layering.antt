-- What a call of the memory below is to the caller of a layer that shows its cells in an order of its own.
use Rattle.std.proofs.Common.{◌≡◌, ℕ, ◌<◌, Bool, cond, eqb, ◌≢◌, Ok, Err, Result, sym, ap, ◌∙◌, ⊎_elim, arith}
use Rattle.std.proofs.lemmas.Bool.{eq-eqb, ne_eqb, cases_eq}
use Rattle.refusal.specs.declared.Refusal.{Refusal}
use Rattle.memory.specs.Mem.{Layout, Mem, Sound, Leaves, Unchanged, Got, Placed, Put, Knocked}
use Rattle.memory.specs.Layered.{layered, Picks}

module _ (size : ℕ → ℕ) (index : ℕ → ℕ → ℕ) (m : Mem) (p : Picks size index m.layout.cells) where
  -- a layer keeps the laws of every memory
  pub layered-sound : Sound m.layout → Sound (layered size index m).layout
  layered-sound s = record {
    small = s.small;
    room = omega (arith, p.few, s.room);
    within = λ k h. s.within _ (p.into k h);
    apart = λ i j hi hj e. p.once i j hi hj (s.apart _ _ (p.into i hi) (p.into j hj) e);
  }

  -- cell k below is the layer's cell i
  abbrev Is : ℕ → ℕ → Type 0
  Is i k = (i < size m.layout.cells) × (k ≡ index m.layout.cells i)

  is_below : (i k : ℕ) → Is i k → k < m.layout.cells
  is_below i k s = rw s.1 (p.into i s.0)

  pub got : (i k : ℕ) → Is i k → (r : Result Bool Refusal) → Got m k r → Got (layered size index m) i r
  got i k s (Ok v) q = (s.0, q.1 ∙ ap m.bit s.1)
  got i k s (Err e) q = absurd (omega (arith, is_below i k s))

  pub placed : (i k : ℕ) → Is i k → (r : Result ℕ Refusal) → Placed m k r → Placed (layered size index m) i r
  placed i k s (Ok v) q = (s.0, q.1 ∙ ap m.layout.place s.1)
  placed i k s (Err e) q = absurd (omega (arith, is_below i k s))

  module _ (m' : Mem) where
    -- the layout above follows from that below, and so do the cells
    through : (f : ℕ → Bool) → Leaves m m' f → Leaves (layered size index m) (layered size index m') (λ k. f (index m.layout.cells k))
    through f q = (
      ap (λ (l : Layout). (layered size index (record { layout = l; bit = m.bit; held = m.held })).layout) q.0,
      λ k h. ap (λ (l : Layout). m'.bit (index l.cells k)) q.0 ∙ q.1 _ (p.into k h),
    )

    same_test : (j i k : ℕ) → j < size m.layout.cells → Is i k → eqb (index m.layout.cells j) k ≡ eqb j i
    same_test j i k hj s =
        ⊎_elim
        (λ (e : j ≡ i). eq-eqb _ _ (ap (index m.layout.cells) e ∙ sym s.1) ∙ sym (eq-eqb j i e))
        (λ (e : j ≢ i). ne_eqb _ _ (λ c. e (p.once j i hj s.0 (c ∙ s.1))) ∙ sym (ne_eqb j i e))
        (cases_eq j i)

    pub put : {U : Type 0} (i k : ℕ) (v : Bool) → Is i k → (r : Result U Refusal) → Put m m' k v r → Put (layered size index m) (layered size index m') i v r
    put i k v s (Ok u) q =
        let t = through _ q.1 in (
          s.0,
          (t.0, λ j lt. t.1 j lt ∙ ap (λ x. cond x v (m.bit (index m.layout.cells j))) (same_test j i k lt s)),
          λ b lt ne. q.2 b lt (λ e. ne (e ∙ ap m.layout.place s.1)),
        )
    put i k v s (Err e) q = absurd (omega (arith, is_below i k s))

    pub unchanged : Unchanged m m' → Unchanged (layered size index m) (layered size index m')
    unchanged q = (through _ q.0, q.1)

    pub knocked : {U : Type 0} (a n : ℕ) (r : Result U Refusal) → Knocked m m' a n r → Knocked (layered size index m) (layered size index m') a n r
    knocked a n (Ok u) q = (q.0, through _ q.1, q.2)
    knocked a n (Err e) q = (q.0, q.1, unchanged q.2)
