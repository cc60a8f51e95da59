-- Bytes that are the records of a tree in form have no faulty record. Assumes nothing.
use Rattle.std.proofs.Common.{◌≡◌, ℕ, ◌+◌, ◌-◌, ◌*◌, ◌<◌, ◌≤◌, List, [], ◌∷◌, length, get_or, sym, refl, ap, ◌∙◌, subst, inl, inr, arith}
use Rattle.document.specs.declared.kind.Kind.{Kind}
use Rattle.document.specs.declared.kind.Kind.TheVariants.{Tree, Refutation}
use Rattle.document.specs.declared.record.Record.{Record}
use Rattle.document.specs.declared.record.RecordKind.{RecordKind}
use Rattle.document.specs.declared.record.RecordKind.TheVariants.{Leaf, Guess, Count, Split, Other}
use Rattle.document.specs.Bytes.{kind_byte, kind_in, record_at}
use Rattle.document.specs.Forms.{Unasked, Formed, Behind, Faulty}
use Rattle.document.specs.Trees.{Forest, none, grown, weight, records_of, Fitting, Grows, Rooted, Planted}
use Rattle.document.proofs.Rows.{row_same}
use Rattle.document.proofs.Slices.{slice, slice_length, slice_append, slice_there, joined_length, AllFit, fit_append}
use Rattle.document.proofs.Standing.{records_length, same_parts, Good, stands}

kind_fits : (kind : Kind) (k : RecordKind) (beneath : Forest) → Fitting kind k beneath → kind_in (kind_byte k) ≡ k
kind_fits kind Leaf beneath fitting = refl
kind_fits kind Guess beneath fitting = refl
kind_fits kind Count beneath fitting = refl
kind_fits kind Split beneath fitting = refl
kind_fits Tree (Other byte) beneath (inl (is, empty)) = cc
kind_fits Tree (Other byte) beneath (inr (is, some)) = cc
kind_fits Refutation (Other byte) beneath (inl (is, empty)) = cc
kind_fits Refutation (Other byte) beneath (inr is) = cc

all_fit : (kind : Kind) (f : Forest) → Grows kind f → weight f ≤ 1048576 → AllFit (records_of f)
all_fit kind none grows few = tt
all_fit kind (grown before k answer value beneath) grows few =
    fit_append (records_of before) _ (all_fit kind before grows.0 (omega arith))
    (fit_append (records_of beneath) _ (all_fit kind beneath grows.1 (omega arith)) ((kind_fits kind k beneath grows.2, omega arith, grows.5, omega arith), tt))

unasked : (kind : Kind) (e : Record) (answer value : ℕ) → e.answer ≡ answer → e.value ≡ value → Rooted kind answer value → Unasked kind e
unasked Tree e answer value a v root = a ∙ root
unasked Refutation e answer value a v root = (a ∙ root.0, v ∙ root.1)

module _ (kind : Kind) (bs : List ℕ) (planted : Planted kind bs) where
  tree : Forest
  tree = grown none planted.top planted.answer planted.value planted.beneath

  pub planted_length : length bs ≡ 12 * weight (grown none planted.top planted.answer planted.value planted.beneath)
  planted_length =
      let f = grown none planted.top planted.answer planted.value planted.beneath in
      ap length planted.bytes ∙ joined_length (records_of f) ∙ ap (λ n. 12 * n) (records_length f)

  planted_slice : slice (record_at bs) 0 (weight (grown none planted.top planted.answer planted.value planted.beneath)) ≡ records_of (grown none planted.top planted.answer planted.value planted.beneath)
  planted_slice =
      let f = grown none planted.top planted.answer planted.value planted.beneath in
      ap (slice (record_at bs) 0) (sym (records_length f)) ∙ slice_there bs (records_of f) [] 0 planted.bytes refl (all_fit kind f planted.grows planted.few)

  root_is : record_at bs (weight planted.beneath) ≡ record { kind = planted.top; answer = planted.answer; gap = 0; value = planted.value; span = weight planted.beneath }
  root_is =
      let v = weight planted.beneath in
      let r : Record = record { kind = planted.top; answer = planted.answer; gap = 0; value = planted.value; span = v } in
      let e : 0 + v + 1 ≡ v + 1 = omega arith in
      let z : 0 + v ≡ v = omega arith in
      let cut = ap (slice (record_at bs) 0) e ∙ slice_append (record_at bs) v 1 0 in
      let parts = same_parts (slice (record_at bs) 0 v) (records_of planted.beneath) (slice (record_at bs) (0 + v) 1) (r ∷ []) (slice_length (record_at bs) v 0 ∙ sym (records_length planted.beneath)) (sym cut ∙ planted_slice) in
      ap (record_at bs) (sym z) ∙ ap (λ l. get_or l 0 r) parts.1

  module _ (n : ℕ) (count : n ≡ weight planted.beneath + 1) where
    good : (i : ℕ) → i < n → Good kind (record_at bs) i
    good i l = (stands kind (record_at bs) (grown none planted.top planted.answer planted.value planted.beneath) 0 n (omega arith) planted_slice planted.grows).1 i (omega arith) l

    formed : (i : ℕ) → i < n → Formed kind (record_at bs) n i
    formed i l =
        let g = good i l in (
          record {
            shape = g.shape;
            gap = g.gap;
            root = λ last.
                let e : weight planted.beneath ≡ i = omega arith in
                let r = root_is in
                subst (λ k. ((record_at bs k).span ≡ k) × Unasked kind (record_at bs k)) e
                (ap (λ (x : Record). x.span) r, unasked kind (record_at bs (weight planted.beneath)) planted.answer planted.value (ap (λ (x : Record). x.answer) r) (ap (λ (x : Record). x.value) r) planted.root);
          },
          (g.cs, g.children),
        )

    pub planted_clear : (p : ℕ) → Faulty kind (record_at bs) n p → ⊥
    planted_clear p (i, l, inl (is, bad)) = bad (formed i l)
    planted_clear p (i, l, inr (cs, children, behind)) =
        let g = good i l in
        let same = row_same kind (record_at bs) (i - (record_at bs i).span) cs g.cs i children.1 g.children.1 in
        g.rises p (subst (λ ds. Behind kind (record_at bs) ds p) same behind)
