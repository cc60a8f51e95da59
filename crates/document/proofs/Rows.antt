-- One step back over a sibling. Assumes nothing.
use Rattle.std.proofs.Common.{◌≡◌, ℕ, zero, suc, ◌+◌, ◌-◌, ◌<◌, ◌≤◌, List, [], ◌∷◌, sym, refl, ap, subst, inl, inr, ⊎_elim, arith, Some, None, Option, Result, Ok, Err}
use Rattle.std.proofs.lemmas.Bool.{cases_lt}
use Rattle.document.specs.declared.kind.Kind.{Kind}
use Rattle.document.specs.declared.record.Record.{Record}
use Rattle.document.specs.declared.row.Misfit.{Misfit}
use Rattle.document.specs.Forms.{key, Row, Begins, Beside}
use Rattle.document.specs.Walks.{Tells}

-- what a row tells, where the siblings behind it, looked at before, told `found`
abbrev pub over : Option ℕ → Result (Option ℕ) Misfit → Result (Option ℕ) Misfit
over found (Err misfit) = Err misfit
over found (Ok None) = Ok found
over found (Ok (Some p)) = Ok (Some p)

module _ (kind : Kind) (at : ℕ → Record) (low : ℕ) where
  -- each sibling of a row with one before it stands below the row's end
  pub beside_below : (cs : List ℕ) (end d c : ℕ) → Row at low cs end → Beside cs d c → d < end
  beside_below [] end d c row beside = absurd beside
  beside_below (x ∷ xs) end d c row beside =
      ⊎_elim (λ here. let e : x ≡ d = here.0 in omega (arith, row.0))
      (λ there. let below : d < x - (at x).span = beside_below xs (x - (at x).span) d c row.2 there in omega (arith, row.0))
      beside

  -- the sibling before the last of a row, where there is one, stands at the end of what the last leaves
  begins_at : (cs : List ℕ) (end c : ℕ) → Row at low cs end → Begins cs c → (end ≡ c + 1) × (low < end)
  begins_at [] end c row begins = absurd begins
  begins_at (x ∷ xs) end c row begins = let e : x ≡ c = begins in (omega (arith, row.0), omega (arith, row.0, row.1))

  module _ (c : ℕ) (fits : low + (at c).span ≤ c) where
    -- a row that ends at c + 1 has c as its last sibling
    strip : (cs : List ℕ) → Row at low cs (c + 1) → (rest : List ℕ) × Row at low rest (c - (at c).span)
    strip [] row = let e : c + 1 ≡ low = row in absurd (omega arith)
    strip (x ∷ xs) row = let e : x ≡ c = omega (arith, row.0) in (xs, subst (λ y. Row at low xs (y - (at y).span)) e row.2)

    wider : (rest : List ℕ) → Row at low rest (c - (at c).span) → Row at low (c ∷ rest) (c + 1)
    wider rest row = (refl, fits, row)

    pub step_rising : ((b : ℕ) → c - (at c).span ≡ b + 1 → low < c - (at c).span → key kind (at b) < key kind (at c))
        → (r : Result (Option ℕ) Misfit) → Tells kind at low (c - (at c).span) r → Tells kind at low (c + 1) r
    step_rising up (Err misfit) tells = λ cs row. let s = strip cs row in tells s.0 s.1
    step_rising up (Ok None) tells =
        let cs = tells.0 in
        let row = tells.1 in (
          c ∷ cs,
          wider cs row,
          λ d behind. ⊎_elim
              (λ here. let e : c ≡ d = here.0 in let b = begins_at cs _ behind.0 row here.1 in let k = up behind.0 b.0 b.1 in let l = subst (λ x. key kind (at x) ≤ key kind (at behind.0)) (sym e) behind.2 in omega arith)
              (λ there. tells.2 d (behind.0, there, behind.2))
              behind.1,
        )
    step_rising up (Ok (Some p)) tells =
        let cs = tells.0 in
        let row = tells.1 in
        let late = tells.2 in (
          c ∷ cs,
          wider cs row,
          (late.0, inr late.1, late.2),
          λ d less behind. ⊎_elim
              (λ here. let e : c ≡ d = here.0 in let b = begins_at cs _ behind.0 row here.1 in let k = up behind.0 b.0 b.1 in let l = subst (λ x. key kind (at x) ≤ key kind (at behind.0)) (sym e) behind.2 in omega arith)
              (λ there. tells.3 d less (behind.0, there, behind.2))
              behind.1,
        )

    pub step_late : (b : ℕ) → c - (at c).span ≡ b + 1 → low < c - (at c).span → key kind (at c) ≤ key kind (at b)
        → (r : Result (Option ℕ) Misfit) → Tells kind at low (c - (at c).span) r → Tells kind at low (c + 1) (over (Some c) r)
    step_late b is more down (Err misfit) tells = λ cs row. let s = strip cs row in tells s.0 s.1
    step_late b is more down (Ok None) ([], row, none) = let e : c - (at c).span ≡ low = row in absurd (omega arith)
    step_late b is more down (Ok None) (y ∷ ys, row, none) =
        let e : y ≡ b = omega (arith, row.0) in (
          c ∷ y ∷ ys,
          wider (y ∷ ys) row,
          (b, inl (refl, e), down),
          λ d less behind. ⊎_elim
              (λ here. let f : c ≡ d = here.0 in omega arith)
              (λ there. none d (behind.0, there, behind.2))
              behind.1,
        )
    step_late b is more down (Ok (Some p)) tells =
        let cs = tells.0 in
        let row = tells.1 in
        let late = tells.2 in
        let below : p < c - (at c).span = beside_below cs _ p late.0 row late.1 in (
          c ∷ cs,
          wider cs row,
          (late.0, inr late.1, late.2),
          λ d less behind. ⊎_elim
              (λ here. let f : c ≡ d = here.0 in omega arith)
              (λ there. tells.3 d less (behind.0, there, behind.2))
              behind.1,
        )

  module _ (found : Option ℕ) (end i : ℕ) (child : Record) (inv : (r : Result (Option ℕ) Misfit) → Tells kind at low end r → Tells kind at low i (over found r)) (is : child ≡ at (end - 1)) (inside : low < end) where
    span_is : child.span ≡ (at (end - 1)).span
    span_is = ap (λ (e : Record). e.span) is

    back : end - 1 + 1 ≡ end
    back = omega arith

    pub turn_broken : end - 1 - low < child.span → (misfit : Misfit) → Tells kind at low i (Err misfit)
    turn_broken over-long misfit = inv (Err misfit) (λ cs row. long cs row)
      where
        long : (cs : List ℕ) → Row at low cs end → ⊥
        long [] row = let e : end ≡ low = row in omega arith
        long (x ∷ xs) row = let e : x ≡ end - 1 = omega (arith, row.0) in let f = subst (λ y. low + (at y).span ≤ y) e row.1 in omega (arith, span_is)

    module _ (fits : child.span ≤ end - 1 - low) where
      -- the two ends of a step, as the lemmas above have them
      onward : (r : Result (Option ℕ) Misfit) → Tells kind at low (end - 1 - child.span) r → Tells kind at low (end - 1 - (at (end - 1)).span) r
      onward r tells = subst (λ (s : ℕ). Tells kind at low (end - 1 - s) r) span_is tells

      holds : low + (at (end - 1)).span ≤ end - 1
      holds = omega (arith, span_is)

      pub turn_late : low < end - 1 - child.span → key kind child ≤ key kind (at (end - 1 - child.span - 1))
          → (r : Result (Option ℕ) Misfit) → Tells kind at low (end - 1 - child.span) r → Tells kind at low i (over (Some (end - 1)) r)
      turn_late more down r tells = again r (subst (λ e. Tells kind at low e (over (Some (end - 1)) r)) back stepped)
        where
          before : ℕ
          before = end - 1 - child.span - 1

          stepped : Tells kind at low (end - 1 + 1) (over (Some (end - 1)) r)
          stepped =
              step_late (end - 1) holds (end - 1 - child.span - 1) (omega (arith, span_is)) (omega (arith, span_is))
              (subst (λ (e : Record). key kind e ≤ key kind (at (end - 1 - child.span - 1))) is down) r (onward r tells)

          again : (r : Result (Option ℕ) Misfit) → Tells kind at low end (over (Some (end - 1)) r) → Tells kind at low i (over (Some (end - 1)) r)
          again (Err misfit) t = inv (Err misfit) t
          again (Ok None) t = inv (Ok (Some (end - 1))) t
          again (Ok (Some p)) t = inv (Ok (Some p)) t

      pub turn_rising : (low < end - 1 - child.span → key kind (at (end - 1 - child.span - 1)) < key kind child)
          → (r : Result (Option ℕ) Misfit) → Tells kind at low (end - 1 - child.span) r → Tells kind at low i (over found r)
      turn_rising up r tells =
          inv r (subst (λ e. Tells kind at low e r) back
          (step_rising (end - 1) holds
          (λ b e more.
          let f : b ≡ end - 1 - child.span - 1 = omega (arith, span_is) in
          let k = up (omega (arith, span_is)) in
          subst (λ x. key kind (at b) < key kind x) is (subst (λ x. key kind (at x) < key kind child) (sym f) k))
          r (onward r tells)))

  pub walk_done : (found : Option ℕ) (end i : ℕ) → ((r : Result (Option ℕ) Misfit) → Tells kind at low end r → Tells kind at low i (over found r)) → end ≡ low → Tells kind at low i (Ok found)
  walk_done found end i inv is = inv (Ok None) ([], is, λ d behind. behind.1)

  -- a row has one list of siblings
  pub row_same : (cs ds : List ℕ) (end : ℕ) → Row at low cs end → Row at low ds end → cs ≡ ds
  row_same [] [] end x y = refl
  row_same [] (d ∷ ds) end x y = let e : end ≡ low = x in absurd (omega (arith, y.0, y.1))
  row_same (c ∷ cs) [] end x y = let e : end ≡ low = y in absurd (omega (arith, x.0, x.1))
  row_same (c ∷ cs) (d ∷ ds) end x y =
      let e : d ≡ c = omega (arith, x.0, y.0) in
      let z = subst (λ k. Row at low ds (k - (at k).span)) e y.2 in
      let f = row_same cs ds (c - (at c).span) x.2 z in
      cc

module _ (kind : Kind) (at : ℕ → Record) where
  stays : (low end : ℕ) (r : Result (Option ℕ) Misfit) → Tells kind at low end r → Tells kind at low end (over None r)
  stays low end (Err misfit) tells = tells
  stays low end (Ok None) tells = tells
  stays low end (Ok (Some p)) tells = tells

  -- one sibling more, whether it rises above the one before it or not
  one_more : (low end : ℕ) → low < end → (at (end - 1)).span ≤ end - 1 - low → (r : Result (Option ℕ) Misfit) → Tells kind at low (end - 1 - (at (end - 1)).span) r → (r : Result (Option ℕ) Misfit) × Tells kind at low end r
  one_more low end inside fits r tells =
      let c = end - 1 in
      let next = c - (at c).span in
      ⊎_elim
      (λ (more : low < next). ⊎_elim
      (λ (up : key kind (at (next - 1)) < key kind (at c)). (over None r, turn_rising kind at low None end end (at c) (stays low end) refl inside fits (λ _. up) r tells))
      (λ (down : key kind (at c) ≤ key kind (at (next - 1))). (over (Some c) r, turn_late kind at low None end end (at c) (stays low end) refl inside fits more down r tells))
      (cases_lt (key kind (at (next - 1))) (key kind (at c))))
      (λ (alone : next ≤ low). (over None r, turn_rising kind at low None end end (at c) (stays low end) refl inside fits (λ more. absurd (omega arith)) r tells))
      (cases_lt low next)

  -- what the records between two places tell, whichever they are
  pub row_told : (fuel low end : ℕ) → end ≤ fuel → low ≤ end → (r : Result (Option ℕ) Misfit) × Tells kind at low end r
  row_told zero low end in' begins = (Ok None, ([], omega arith, λ d b. b.1))
  row_told (suc fuel) low end in' begins =
      let c = end - 1 in
      ⊎_elim
      (λ (inside : low < end). ⊎_elim
      (λ (long : c - low < (at c).span). (Err (record {}), turn_broken kind at low None end end (at c) (stays low end) refl inside long (record {})))
      (λ (fits : (at c).span ≤ c - low). let below = row_told fuel low (c - (at c).span) (omega arith) (omega arith) in one_more low end inside fits below.0 below.1)
      (cases_lt (c - low) (at c).span))
      (λ (done : end ≤ low). (Ok None, ([], omega arith, λ d b. b.1)))
      (cases_lt low end)
