-- The lowest record that is blamed, found from every record's own look. Assumes nothing.
use Rattle.std.proofs.Common.{◌≡◌, ℕ, zero, suc, ◌+◌, ◌-◌, ◌<◌, ◌≤◌, min, List, [], ◌∷◌, Some, None, Option, Result, Ok, Err, sym, refl, ap, ◌∙◌, subst, fold, inl, inr, ◌⊎◌, ⊎_elim, arith}
use Rattle.std.specs.Iterator.{Drains}
use Rattle.std.specs.Option.{MatchOption}
use Rattle.std.proofs.lemmas.Iterator.{YieldsList}
use Rattle.std.proofs.lemmas.Iterator.Consumers.{reduce_from_yields_List}
use Rattle.std.specs.List.{filter_map, reduce, range_with_len, cons_option, FoldsTo}
use Rattle.std.proofs.lemmas.Bool.{cases_lt, cases_eq}
use Rattle.document.specs.declared.kind.Kind.{Kind}
use Rattle.document.specs.declared.record.Record.{Record}
use Rattle.document.specs.declared.row.Misfit.{Misfit}
use Rattle.document.specs.Forms.{Plain, Blames, Faulty}
use Rattle.document.specs.Walks.{Tells, Least}
use Rattle.document.proofs.Rows.{row_told}
use Rattle.document.proofs.Blames.{blames_too_far, blames_broken, blames_none, blames_itself, blames_late}
use Rattle.document.proofs.Growing.{plain_decided}

-- a property has one least place
pub least_same : (P : ℕ → Type 0) (a b : Option ℕ) → Least P a → Least P b → a ≡ b
least_same P None None x y = refl
least_same P None (Some q) x y = absurd (x q y.0)
least_same P (Some p) None x y = absurd (y p x.0)
least_same P (Some p) (Some q) x y =
    ⊎_elim (λ (l : p < q). absurd (y.1 p l x.0))
    (λ (l : q ≤ p). ⊎_elim (λ (m : q < p). absurd (x.1 q m y.0)) (λ (m : p ≤ q). ap Some (omega arith)) (cases_lt q p))
    (cases_lt p q)

-- the lower of two places, where there are any
abbrev lower : Option ℕ → Option ℕ → Option ℕ
lower None b = b
lower (Some p) None = Some p
lower (Some p) (Some q) = Some (min p q)

-- the lower of two least places is the least place of both properties
least_lower : (P Q R : ℕ → Type 0) → ((p : ℕ) → P p → R p) → ((p : ℕ) → Q p → R p) → ((p : ℕ) → R p → P p ⊎ Q p)
    → (a b : Option ℕ) → Least P a → Least Q b → Least R (lower a b)
least_lower P Q R f g h None None x y = λ p r. ⊎_elim (x p) (y p) (h p r)
least_lower P Q R f g h None (Some q) x y = (g q y.0, λ p l r. ⊎_elim (x p) (y.1 p l) (h p r))
least_lower P Q R f g h (Some p) None x y = (f p x.0, λ q l r. ⊎_elim (x.1 q l) (y q) (h q r))
least_lower P Q R f g h (Some p) (Some q) x y =
    ⊎_elim
    (λ (l : p < q). let e : min p q ≡ p = omega arith in (subst R (sym e) (f p x.0), λ k m r. ⊎_elim (x.1 k (omega arith)) (y.1 k (omega arith)) (h k r)))
    (λ (l : q ≤ p). let e : min p q ≡ q = omega arith in (subst R (sym e) (g q y.0), λ k m r. ⊎_elim (x.1 k (omega arith)) (y.1 k (omega arith)) (h k r)))
    (cases_lt p q)

min_fold : (p x : ℕ) (xs : List ℕ) → fold min (min p x) xs ≡ min p (fold min x xs)
min_fold p x [] = refl
min_fold p x (y ∷ ys) =
    let e : min (min p x) y ≡ min p (min x y) = omega arith in
    ap (λ m. fold min m ys) e ∙ min_fold p (min x y) ys

reduce_one_more : (o : Option ℕ) (xs : List ℕ) → reduce min (cons_option o xs) ≡ lower o (reduce min xs)
reduce_one_more None xs = refl
reduce_one_more (Some p) [] = refl
reduce_one_more (Some p) (x ∷ xs) = ap Some (min_fold p x xs)

-- what `reduce` answers, where its closure takes two places together as h does
module _ {F : Type 0} {turn : F × ℕ → ℕ → F × ℕ → Type 0} (h : ℕ → ℕ → ℕ) where
  together : ((p : F × ℕ) (x : ℕ) (q : F × ℕ) → turn p x q → q.1 ≡ h p.1 x) → (xs : List ℕ) (p q : F × ℕ) → FoldsTo turn p xs q → FoldsTo (λ p z c. c ≡ h p z) p.1 xs q.1
  together acts [] p q turns = ap (λ t. t.1) turns
  together acts (x ∷ xs) p q turns = (turns.0.1, acts p x turns.0 turns.1, together acts xs turns.0 q turns.2)

  pub reduced : {S : Type 0} {steps : S → Option ℕ → S → Type 0} {s : S} {all : List ℕ} (f : F) (r : Option ℕ)
      → MatchOption r (Drains steps s []) (λ y. (x : ℕ) × (xs : List ℕ) × (last : F) × Drains steps s (x ∷ xs) × FoldsTo turn (f, x) xs (last, y))
      → YieldsList steps (λ x. x) s all
      → ((p : F × ℕ) (x : ℕ) (q : F × ℕ) → turn p x q → q.1 ≡ h p.1 x)
      → r ≡ reduce h all
  reduced f None ran road acts = reduce_from_yields_List h _ None ran road
  reduced f (Some y) ran road acts = reduce_from_yields_List h _ (Some y) (ran.0, ran.1, ran.3, together acts ran.1 (f, ran.0) (ran.2, y) ran.4) road

module _ (kind : Kind) (at : ℕ → Record) where
  module _ (n i : ℕ) (fits : (at i).span ≤ i) where
    from_row : (r : Result (Option ℕ) Misfit) → Tells kind at (i - (at i).span) i r → (o : Option ℕ) × Least (Blames kind at n i) o
    from_row (Err misfit) tells = (Some i, blames_broken kind at n i (at i) refl fits misfit tells)
    from_row (Ok (Some p)) tells = (Some p, blames_late kind at n i (at i) refl fits p tells)
    from_row (Ok None) tells =
        ⊎_elim
        (λ (plain : Plain kind (at i) n i). (None, blames_none kind at n i (at i) refl fits tells plain))
        (λ (plain : Plain kind (at i) n i → ⊥). (Some i, blames_itself kind at n i (at i) refl fits tells plain))
        (plain_decided kind (at i) n i)

  -- the lowest record that a record blames
  pub blamed : (n i : ℕ) → (o : Option ℕ) × Least (Blames kind at n i) o
  blamed n i =
      ⊎_elim
      (λ (long : i < (at i).span). (Some i, blames_too_far kind at n i long))
      (λ (fits : (at i).span ≤ i). let told = row_told kind at i (i - (at i).span) i (omega arith) (omega arith) in from_row n i fits told.0 told.1)
      (cases_lt i (at i).span)

  -- the records that those from a up to n blame
  abbrev From : ℕ → ℕ → ℕ → Type 0
  From n a p = (i : ℕ) × (a ≤ i) × (i < n) × Blames kind at n i p

  blamed_from : (n a m : ℕ) → a + m ≡ n → Least (From n a) (reduce min (filter_map (λ i. (blamed n i).0) (range_with_len a m)))
  blamed_from n a zero all = λ p b. omega (arith, b.1, b.2)
  blamed_from n a (suc m) all =
      let own = blamed n a in
      subst (Least (From n a)) (sym (reduce_one_more (blamed n a).0 (filter_map (λ i. (blamed n i).0) (range_with_len (a + 1) m))))
      (least_lower (Blames kind at n a) (From n (a + 1)) (From n a)
      (λ p b. (a, omega arith, omega arith, b))
      (λ p b. (b.0, omega (arith, b.1), b.2, b.3))
      (λ p b. ⊎_elim
      (λ (here : a ≡ b.0). inl (subst (λ i. Blames kind at n i p) (sym here) b.3))
      (λ (other : a ≡ b.0 → ⊥). inr (b.0, omega (arith, b.1), b.2, b.3))
      (cases_eq a b.0))
      _ _ own.1 (blamed_from n (a + 1) m (omega arith)))

  -- the lowest of those that all records blame is the lowest faulty record
  pub lowest : (n : ℕ) (o : Option ℕ) → o ≡ reduce min (filter_map (λ i. (blamed n i).0) (range_with_len 0 n)) → Least (Faulty kind at n) o
  lowest n o is = faulty o (subst (Least (From n 0)) (sym is) (blamed_from n 0 n (omega arith)))
    where
      faulty : (o : Option ℕ) → Least (From n 0) o → Least (Faulty kind at n) o
      faulty None clear = λ p b. clear p (b.0, omega arith, b.1, b.2)
      faulty (Some p) least = ((least.0.0, least.0.2, least.0.3), λ q l b. least.1 q l (b.0, omega arith, b.1, b.2))
