-- The laws of damage.
use Rattle.std.proofs.Common.{◌≡◌, ℕ, zero, suc, ◌+◌, ◌-◌, ◌*◌, ◌/◌, ◌%◌, ◌<◌, ◌≤◌, Bool, true, false, cond, eqb, leb, List, [], ◌∷◌, ◌++◌, length, replicate, sym, refl, ap, ◌∙◌, subst, ⊎_elim, mul_assoc, lt_of_mul-lt-mul_right, div-add-mod', arith}
use mathlib.Core.Option.{Option, none, some}
use lib.Arith.{digits_lt}
use lib.ListN.{length-replicate}
use Rattle.std.specs.List.{AllByRecursion}
use Rattle.std.proofs.ByRecursion.{All-weaker}
use Rattle.std.proofs.lemmas.List.{nil_from_length}
use Rattle.std.proofs.lemmas.Bool.{eq-eqb, ne_eqb, cases_eq}
use Rattle.std.proofs.lemmas.Nat.{mod_below, div_below}
use Rattle.memory.specs.Lines.{Interleaved}
use Rattle.galois.specs.Rows.{distance}
use Rattle.tally.specs.Rows.{hits}
use Rattle.tally.specs.Tally.{Setting, Call, write, read, mend, sweep, knock, Row, data_cells_of, nearest, blank, after_write, after_mend, after_knock, struck, step, after}
use Rattle.tally.specs.Damage.{Lawful, Within, Near, mends, onto, pieces, knocks, OneOf, Spaced, DamageLaws}
use Rattle.tally.specs.Buffers.{unpacked}
use Rattle.tally.proofs.Buffers.{unpacked-long}
use Rattle.tally.proofs.Knocks.{distance_self, length-turned, distance-turned}
use Rattle.tally.proofs.Search.{found, not_found}
use Rattle.tally.proofs.Spread.{spread}

pub either : {A : Type 0} (P : A → Type 0) (h : Bool) (x y : A) → P x → P y → P (cond h x y)
either P true x y p q = p
either P false x y p q = q

module _ (b : Setting) (law : Lawful b) where
  open b use {n, k, t, s, R, layout, code, encode}

  only : (m : ℕ) (row : List Bool) → m ≤ t → length row ≡ n → (c e : List Bool) → Near b m row c → Near b m row e → c ≡ e
  only m row f l c e p q = law.apart row c e l p.long q.long p.coded q.coded (omega (arith, p.close, q.close))

  -- what every list of calls keeps
  pub record Kept (w : Row) : Type 0 where
    pub long : length w.cells ≡ n
    pub sized : length w.written ≡ k
    pub near : AllByRecursion (λ x. x ≤ 2 * t - s) w.earlier → distance w.cells (encode w.written) ≤ w.newest

  kept_blank : Kept (blank b)
  kept_blank = record {
    long = length-replicate n false;
    sized = length-replicate k false;
    near = λ _. rw law.zeros (omega (arith, distance_self (replicate n false)));
  }

  kept_written : (w : Row) (buffer : List ℕ) → Kept w → (o : Option (List Bool)) → unpacked k buffer ≡ o → Kept (after_write b o w)
  kept_written w buffer v none e = v
  kept_written w buffer v (some d) e = record {
    long = law.long d (unpacked-long k buffer d e);
    sized = unpacked-long k buffer d e;
    near = λ _. omega (arith, distance_self (encode d));
  }

  -- a code row within the reach of a row that is not too far from its own is its own
  own : (w : Row) → Kept w → Within (2 * t - s) w → (c : List Bool) → Near b s w.cells c → c ≡ encode w.written
  own w v m c p =
      law.apart w.cells c (encode w.written) v.long p.long (law.long w.written v.sized) p.coded (law.coded w.written v.sized)
      (omega (arith, law.reach, p.close, v.near m.1, m.0))

  kept_mended : (w : Row) → Kept w → (o : Option (List Bool)) → nearest b s w.cells ≡ o → Kept (after_mend b o w)
  kept_mended w v none e = v
  kept_mended w v (some c) e = record {
    long = (found b s w.cells c e).long;
    sized = v.sized;
    near = λ m. rw (own w v m c (found b s w.cells c e)) (omega (arith, distance_self (encode w.written)));
  }

  kept_knocked : (w : Row) (hit : ℕ → Bool) → Kept w → Kept (after_knock b hit w)
  kept_knocked w hit v = record {
    long = length-turned hit w.cells ∙ v.long;
    sized = v.sized;
    near = λ m. omega (arith, v.near m, rw v.long at (distance-turned hit w.cells (encode w.written)));
  }

  kept_step : (r : ℕ) (c : Call) (w : Row) → Kept w → Kept (step b r c w)
  kept_step r (write q buffer) w v = either Kept (eqb q r) _ _ (kept_written w buffer v (unpacked k buffer) refl) v
  kept_step r (read q len) w v = v
  kept_step r (mend q) w v = either Kept (eqb q r) _ _ (kept_mended w v (nearest b s w.cells) refl) v
  kept_step r sweep w v = kept_mended w v (nearest b s w.cells) refl
  kept_step r (knock from len) w v = either Kept (leb (from + len) layout.span) _ _ (kept_knocked w (struck b from len r) v) v

  pub kept : (h : List Call) (r : ℕ) → Kept (after b h r)
  kept [] r = kept_blank
  kept (c ∷ h) r = kept_step r c (after b h r) (kept h r)

  true_data : (h : List Call) (r : ℕ) → Within (2 * t - s) (after b h r) → (c : List Bool) → Near b s (after b h r).cells c → data_cells_of b c ≡ (after b h r).written
  true_data h r m c p = ap (data_cells_of b) (own (after b h r) (kept h r) m c p) ∙ law.back (after b h r).written (kept h r).sized

  pub looser : (w : Row) → Within s w → Within (2 * t - s) w
  looser w m = (omega (arith, law.reach), All-weaker (λ x. x ≤ s) (λ x. x ≤ 2 * t - s) (λ x l. omega (arith, law.reach)) w.earlier m.1)

  pub reached : (w : Row) → Kept w → Within s w → Near b s w.cells (encode w.written)
  reached w v m = record {
    long = law.long w.written v.sized;
    coded = law.coded w.written v.sized;
    close = omega (arith, v.near (looser w m).1, m.0);
  }

  -- a sweep is a mend of each row from 0 up
  mends-past : (h : List Call) (r m : ℕ) → m ≤ r → after b (mends m ++ h) r ≡ after b h r
  mends-past h r zero l = refl
  mends-past h r (suc m) l = rw (ne_eqb m r (λ e. omega arith)) (mends-past h r m (omega arith))

  mends-row : (h : List Call) (r m : ℕ) → r < m → after b (mends m ++ h) r ≡ after b (sweep ∷ h) r
  mends-row h r zero l = absurd (omega arith)
  mends-row h r (suc m) l =
      ⊎_elim
      (λ e. rw (eq-eqb m r e) (ap (λ (w : Row). after_mend b (nearest b s w.cells) w) (mends-past h r m (omega arith))))
      (λ e. rw (ne_eqb m r e) (mends-row h r m (omega arith)))
      (cases_eq m r)

  module _ (r : ℕ) (inside : r < R) (m : ℕ) (gentle : (from len : ℕ) → len ≤ m → hits (struck b from len r) n ≤ s) where
    -- x is 0 where no knock was accepted since the last sweep
    abbrev Fresh : List (List Call) → ℕ → Type 0
    Fresh [] x = x ≡ 0
    Fresh (p ∷ ps) x = knocks b p ≡ [] → x ≡ 0

    abbrev Calm : List (List Call) → Row → Type 0
    Calm ps w = Within s w × Fresh ps w.newest

    fresh_zero : (ps : List (List Call)) → Fresh ps 0
    fresh_zero [] = refl
    fresh_zero (p ∷ ps) = λ _. refl

    fresh_onto : (c : Call) → ((p : List Call) → knocks b (c ∷ p) ≡ knocks b p) → (ps : List (List Call)) (x : ℕ) → Fresh ps x → Fresh (onto c ps) x
    fresh_onto c e [] x f = λ _. f
    fresh_onto c e (p ∷ ps) x f = λ z. f (sym (e p) ∙ z)

    fewer : (c : Call) (p : List Call) → OneOf m (knocks b (c ∷ p)) → OneOf m (knocks b p)
    fewer (write q buffer) p o = o
    fewer (read q len) p o = o
    fewer (mend q) p o = o
    fewer sweep p o = o
    fewer (knock from len) p o = go (leb (from + len) layout.span) o
      where
        go : (a : Bool) → OneOf m (cond a (len ∷ knocks b p) (knocks b p)) → OneOf m (knocks b p)
        go true o = (omega (arith, o.0), o.1.1)
        go false o = o

    spaced_onto : (c : Call) (ps : List (List Call)) → AllByRecursion (λ p. OneOf m (knocks b p)) (onto c ps) → AllByRecursion (λ p. OneOf m (knocks b p)) ps
    spaced_onto c [] o = tt
    spaced_onto c (p ∷ ps) o = (fewer c p o.0, o.1)

    calm_written : (ps : List (List Call)) (w : Row) (o : Option (List Bool)) → Calm ps w → Calm ps (after_write b o w)
    calm_written ps w none v = v
    calm_written ps w (some d) v = ((omega arith, tt), fresh_zero ps)

    calm_mended : (ps : List (List Call)) (w : Row) (o : Option (List Bool)) → Calm ps w → Calm ps (after_mend b o w)
    calm_mended ps w none v = v
    calm_mended ps w (some c) v = ((omega arith, v.0), fresh_zero ps)

    calm_swept : (ps : List (List Call)) (w : Row) → Kept w → Calm ps w → (o : Option (List Bool)) → nearest b s w.cells ≡ o → Calm ([] ∷ ps) (after_mend b o w)
    calm_swept ps w v c none e = absurd (not_found b s w.cells e (encode w.written) (reached w v c.0))
    calm_swept ps w v c (some d) e = ((omega arith, c.0), λ _. refl)

    calm-struck : (from len : ℕ) (ls : List ℕ) (w : Row) (a : Bool) → OneOf m (cond a (len ∷ ls) ls) → Within s w → (ls ≡ [] → w.newest ≡ 0)
        → Within s (cond a (after_knock b (struck b from len r) w) w) × (cond a (len ∷ ls) ls ≡ [] → (cond a (after_knock b (struck b from len r) w) w).newest ≡ 0)
    calm-struck from len ls w true o v f =
        ((omega (arith, gentle from len o.1.0, f (nil_from_length ls (omega (arith, o.0)))), v.1), λ e. cc)
    calm-struck from len ls w false o v f = (v, f)

    calm_knocked : (from len : ℕ) (ps : List (List Call)) (w : Row) → AllByRecursion (λ p. OneOf m (knocks b p)) (onto (knock from len) ps) → Calm ps w → Calm (onto (knock from len) ps) (step b r (knock from len) w)
    calm_knocked from len [] w o v = calm-struck from len [] w (leb (from + len) layout.span) o.0 v.0 (λ _. v.1)
    calm_knocked from len (p ∷ ps) w o v = calm-struck from len (knocks b p) w (leb (from + len) layout.span) o.0 v.0 v.1

    calm : (h : List Call) → Spaced b m h → Calm (pieces h) (after b h r)
    calm [] o = ((omega arith, tt), λ _. refl)
    calm (write q buffer ∷ h) o =
        let v = calm h (spaced_onto (write q buffer) (pieces h) o) in
        let v' : Calm (onto (write q buffer) (pieces h)) (after b h r) = (v.0, fresh_onto (write q buffer) (λ p. refl) (pieces h) _ v.1) in
        either (Calm (onto (write q buffer) (pieces h))) (eqb q r) _ _ (calm_written _ _ (unpacked k buffer) v') v'
    calm (read q len ∷ h) o =
        let v = calm h (spaced_onto (read q len) (pieces h) o) in
        (v.0, fresh_onto (read q len) (λ p. refl) (pieces h) _ v.1)
    calm (mend q ∷ h) o =
        let v = calm h (spaced_onto (mend q) (pieces h) o) in
        let v' : Calm (onto (mend q) (pieces h)) (after b h r) = (v.0, fresh_onto (mend q) (λ p. refl) (pieces h) _ v.1) in
        either (Calm (onto (mend q) (pieces h))) (eqb q r) _ _ (calm_mended _ _ (nearest b s (after b h r).cells) v') v'
    calm (sweep ∷ h) o = calm_swept (pieces h) (after b h r) (kept h r) (calm h o.1) (nearest b s (after b h r).cells) refl
    calm (knock from len ∷ h) o = calm_knocked from len (pieces h) (after b h r) o (calm h (spaced_onto (knock from len) (pieces h) o))

  -- one row of a book on an interleaved memory
  module _ (d : ℕ) (lies : Interleaved d n layout) (r : ℕ) (l : r < R) where
    group : r / d < lies.groups
    group =
        let size : lies.groups * d * n ≡ layout.cells = mul_assoc lies.groups d n ∙ sym lies.whole in
        let low : r * n + 0 < R * n = digits_lt l lies.wide in
        let row : r < lies.groups * d = lt_of_mul-lt-mul_right n (omega (arith, law.room)) in
        div_below r d lies.groups lies.deep row

    gentle_row : (from len : ℕ) → len ≤ d * s → hits (struck b from len r) n ≤ s
    gentle_row from len short =
        let e : r / d * d + r % d ≡ r = div-add-mod' r d in
        spread d from len s (lies.first + r / d * d * n + r % d) (λ j. layout.place (r * n + j)) n
        (λ j k.
        let z : layout.place (r * n + j) ≡ lies.first + (r / d * d * n + j * d + r % d) = subst (λ (q : ℕ). layout.place (q * n + j) ≡ lies.first + (r / d * d * n + j * d + r % d)) e (lies.crossed (r / d) (r % d) j group (mod_below r d lies.deep) k) in
        omega arith)
        short

pub damage_laws : DamageLaws
damage_laws b law = record {
  found = found b;
  not_found = not_found b;
  only = only b law;
  swept = λ h r l. sym (mends-row b law h r b.R l);
  true_data = λ h r l. true_data b law h r;
  in_reach = λ h r l m. reached b law (after b h r) (kept b law h r) m;
  spread = λ d lies h spaced r l. (calm b law r l (d * b.s) (gentle_row b law d lies r l) h spaced).0;
}
