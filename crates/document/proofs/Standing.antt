-- The records of a tree in form, one by one. Assumes nothing.
use Rattle.std.proofs.Common.{◌≡◌, ℕ, ◌+◌, ◌-◌, ◌<◌, ◌≤◌, List, [], ◌∷◌, ◌++◌, length, get_or, take, drop, sym, refl, ap, ◌∙◌, subst, inl, inr, ⊎_elim, arith}
use Rattle.std.proofs.lemmas.List.{append_assoc, take_at, drop_at, length-append}
use Rattle.std.proofs.lemmas.Bool.{cases_lt}
use Rattle.document.specs.declared.kind.Kind.{Kind}
use Rattle.document.specs.declared.kind.Kind.TheVariants.{Tree, Refutation}
use Rattle.document.specs.declared.record.Record.{Record}
use Rattle.document.specs.declared.record.RecordKind.{RecordKind}
use Rattle.document.specs.Forms.{key, Shaped, Row, Children, Begins, Behind}
use Rattle.document.specs.Trees.{Forest, none, grown, weight, records_of, Fitting, Lower, Grows}
use Rattle.document.proofs.Slices.{slice, slice_length, slice_append}

pub records_length : (f : Forest) → length (records_of f) ≡ weight f
records_length none = refl
records_length (grown before kind answer value beneath) =
    let a = records_length before in
    let b = records_length beneath in
    simp length-append (omega arith)

-- two lists with fronts of one length that are equal have equal fronts and equal rests
pub same_parts : (a a' b b' : List Record) → length a ≡ length a' → a ++ b ≡ a' ++ b' → (a ≡ a') × (b ≡ b')
same_parts a a' b b' long e = (
  sym (take_at a b (length a') long) ∙ ap (take (length a')) e ∙ take_at a' b' (length a') refl,
  sym (drop_at a b (length a') long) ∙ ap (drop (length a')) e ∙ drop_at a' b' (length a') refl,
)

-- no sibling of a row is behind the one before it
abbrev pub Rises : Kind → (ℕ → Record) → List ℕ → Type 0
Rises kind at cs = (d : ℕ) → Behind kind at cs d → ⊥

-- the last sibling of a row has the fields of the last tree
abbrev pub Headed : (ℕ → Record) → List ℕ → Forest → Type 0
Headed at [] none = Unit {0}
Headed at [] (grown before kind answer value beneath) = ⊥
Headed at (c ∷ cs) none = ⊥
Headed at (c ∷ cs) (grown before kind answer value beneath) = ((at c).answer ≡ answer) × ((at c).value ≡ value)

-- record i is in form but for what the root asks
pub record Good (kind : Kind) (at : ℕ → Record) (i : ℕ) : Type 0 where
  pub shape : Shaped kind (at i)
  pub gap : (at i).gap ≡ 0
  pub cs : List ℕ
  pub children : Children at i cs
  pub rises : Rises kind at cs

-- the records from low to end are a row of siblings that rise, headed as a row of trees is
pub record Level (kind : Kind) (at : ℕ → Record) (low end : ℕ) (f : Forest) : Type 0 where
  pub cs : List ℕ
  pub row : Row at low cs end
  pub rises : Rises kind at cs
  pub headed : Headed at cs f

shaped : (kind : Kind) (k : RecordKind) (beneath : Forest) (e : Record) → e.kind ≡ k → e.span ≡ weight beneath → Fitting kind k beneath → Shaped kind e
shaped Tree k beneath e is span (inl (leaf, empty)) = inl (is ∙ leaf, span ∙ ap weight empty)
shaped Tree k none e is span (inr (guess, some)) = absurd (some refl)
shaped Tree k (grown b k' a v c) e is span (inr (guess, some)) = inr (is ∙ guess, omega arith)
shaped Refutation k beneath e is span (inl (count, empty)) = inl (is ∙ count, span ∙ ap weight empty)
shaped Refutation k beneath e is span (inr split) = inr (is ∙ split)

-- a record above the last of a row's trees is above the last of its siblings
lifted : (kind : Kind) (at : ℕ → Record) (cs : List ℕ) (before : Forest) (c b : ℕ) (answer value : ℕ) → (at c).answer ≡ answer → (at c).value ≡ value → Headed at cs before → Lower kind before answer value → Begins cs b → key kind (at b) < key kind (at c)
lifted kind at [] before c b answer value ia iv headed low begins = absurd begins
lifted kind at (x ∷ xs) none c b answer value ia iv headed low begins = absurd headed
lifted Tree at (x ∷ xs) (grown before k a v beneath) c b answer value ia iv headed low begins =
    subst (λ y. (at y).answer < (at c).answer) begins (omega (arith, headed.0))
lifted Refutation at (x ∷ xs) (grown before k a v beneath) c b answer value ia iv headed low begins =
    subst (λ y. (at y).value < (at c).value) begins (omega (arith, headed.1))

module _ (kind : Kind) (at : ℕ → Record) where
  -- the last tree of a row: its record, at c, stands after those of the trees before it, up to m, and those beneath it
  module _ (low m c : ℕ) (before : Forest) (k : RecordKind) (answer value : ℕ) (beneath : Forest)
      (here : at c ≡ record { kind = k; answer = answer; gap = 0; value = value; span = weight beneath })
      (left : low ≤ m) (end : m + weight beneath ≡ c)
      (fitting : Fitting kind k beneath) (lower : Lower kind before answer value)
      (siblings : Level kind at low m before) (children : Level kind at m c beneath) where
    span_is : (at c).span ≡ weight beneath
    span_is = ap (λ (e : Record). e.span) here

    start : c - (at c).span ≡ m
    start = omega (arith, span_is)

    pub wider : Level kind at low (c + 1) (grown before k answer value beneath)
    wider =
        record {
          cs = c ∷ siblings.cs;
          row = (refl, omega (arith, span_is), subst (λ e. Row at low siblings.cs e) (sym start) siblings.row);
          rises = λ d behind. ⊎_elim
              (λ (h : (c ≡ d) × Begins siblings.cs behind.0).
              let up = lifted kind at siblings.cs before c behind.0 answer value (ap (λ (e : Record). e.answer) here) (ap (λ (e : Record). e.value) here) siblings.headed lower h.1 in
              let down = subst (λ x. key kind (at x) ≤ key kind (at behind.0)) (sym h.0) behind.2 in
              omega arith)
              (λ h. siblings.rises d (behind.0, h, behind.2))
              behind.1;
          headed = (ap (λ (e : Record). e.answer) here, ap (λ (e : Record). e.value) here);
        }

    pub good_here : Good kind at c
    good_here =
        record {
          shape = shaped kind k beneath (at c) (ap (λ (e : Record). e.kind) here) span_is fitting;
          gap = ap (λ (e : Record). e.gap) here;
          cs = children.cs;
          children = (omega (arith, span_is), subst (λ e. Row at e children.cs c) (sym start) children.row);
          rises = children.rises;
        }

  -- where the records of trees in form stand, they are a row of siblings, and each record is in form
  pub stands : (f : Forest) (low end : ℕ) → low + weight f ≡ end → slice at low (weight f) ≡ records_of f → Grows kind f → Level kind at low end f × ((i : ℕ) → low ≤ i → i < end → Good kind at i)
  stands none low end e is grows = (record { cs = []; row = omega arith; rises = λ d behind. behind.1; headed = tt }, λ i a b. absurd (omega arith))
  stands (grown before k answer value beneath) low end e is grows =
      let w = weight before in
      let v = weight beneath in
      let r : Record = record { kind = k; answer = answer; gap = 0; value = value; span = v } in
      let cut = slice_append at (w + v) 1 low ∙ ap (λ l. l ++ slice at (low + (w + v)) 1) (slice_append at w v low) ∙ append_assoc (slice at low w) (slice at (low + w) v) (slice at (low + (w + v)) 1) in
      let one = same_parts (slice at low w) (records_of before) (slice at (low + w) v ++ slice at (low + (w + v)) 1) (records_of beneath ++ (r ∷ [])) (slice_length at w low ∙ sym (records_length before)) (sym cut ∙ is) in
      let two = same_parts (slice at (low + w) v) (records_of beneath) (slice at (low + (w + v)) 1) (r ∷ []) (slice_length at v (low + w) ∙ sym (records_length beneath)) one.1 in
      let here : at (low + (w + v)) ≡ r = ap (λ l. get_or l 0 r) two.1 in
      let left = stands before low (low + w) refl one.0 grows.0 in
      let below = stands beneath (low + w) (low + (w + v)) (omega arith) two.0 grows.1 in
      let last : low + (w + v) + 1 ≡ end = omega arith in (
        subst (λ x. Level kind at low x (grown before k answer value beneath)) last (wider low (low + w) (low + (w + v)) before k answer value beneath here (omega arith) (omega arith) grows.2 grows.3 left.0 below.0),
        λ i a b. ⊎_elim
            (λ (x : i < low + w). left.1 i a x)
            (λ (x : low + w ≤ i). ⊎_elim
            (λ (y : i < low + (w + v)). below.1 i x y)
            (λ (y : low + (w + v) ≤ i). let z : low + (w + v) ≡ i = omega arith in subst (Good kind at) z (good_here low (low + w) (low + (w + v)) before k answer value beneath here (omega arith) (omega arith) grows.2 grows.3 left.0 below.0))
            (cases_lt i (low + (w + v))))
            (cases_lt i (low + w)),
      )
