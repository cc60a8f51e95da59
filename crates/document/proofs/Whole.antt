-- A file whose lengths agree is the bytes of what it says. Assumes nothing.
use Rattle.std.proofs.Common.{◌≡◌, ℕ, ◌+◌, ◌-◌, ◌*◌, ◌/◌, ◌<◌, ◌≤◌, List, [], ◌∷◌, ◌++◌, length, get_or, take, drop, sym, refl, ap, ◌∙◌, arith}
use Rattle.std.proofs.lemmas.List.{drop_all, append-nil, take-append-drop, drop-drop, length-take, length-drop}
use Rattle.document.specs.declared.file.Trailer.{Trailer}
use Rattle.document.specs.Bytes.{two, four, four_at, ending, encode}
use Rattle.document.specs.Files.{trailer_in, Agreed, paper_in}
use Rattle.document.proofs.Coding.{front, two_front, four_front}

-- the bytes of the fields of a trailer, as they stand
abbrev tail : Trailer → List ℕ
tail t = t.letter ∷ t.edition ∷ two t.title ++ (four t.count ++ (four t.first ++ (four t.second ++ (four t.distance ++ four t.game))))

module _ (bs : List ℕ) (bytes : (i : ℕ) → get_or bs i 0 < 256) where
  tail_in : 24 ≤ length bs → tail (trailer_in bs) ≡ drop (length bs - 24) bs
  tail_in long =
      let t = length bs - 24 in
      let game = sym (append-nil (four (four_at bs (t + 20)))) ∙ four_front bs bytes (t + 20) (t + 24) (omega arith) (omega arith) [] (sym (drop_all (t + 24) bs (omega arith))) in
      let distance = four_front bs bytes (t + 16) (t + 20) (omega arith) (omega arith) _ game in
      let second = four_front bs bytes (t + 12) (t + 16) (omega arith) (omega arith) _ distance in
      let first = four_front bs bytes (t + 8) (t + 12) (omega arith) (omega arith) _ second in
      let count = four_front bs bytes (t + 4) (t + 8) (omega arith) (omega arith) _ first in
      let title = two_front bs bytes (t + 2) (t + 4) (omega arith) (omega arith) _ count in
      front bs t (t + 1) refl (omega arith) _ refl _ (front bs (t + 1) (t + 2) (omega arith) (omega arith) _ refl _ title)

  module _ (edition : (trailer_in bs).edition ≡ 1) (agreed : Agreed (length bs) (trailer_in bs)) where
    pub title_length : length (paper_in bs).title ≡ (trailer_in bs).title
    title_length = length-take (trailer_in bs).title bs ∙ omega (arith, agreed.all)

    pub records_length : length (paper_in bs).records ≡ 12 * (trailer_in bs).count
    records_length = length-take (12 * (trailer_in bs).count) (drop (trailer_in bs).title bs) ∙ omega (arith, agreed.all, length-drop (trailer_in bs).title bs)

    pub records_count : length (paper_in bs).records / 12 ≡ (trailer_in bs).count
    records_count = omega (arith, records_length)

    trailer_is : ending (paper_in bs) ≡ tail (trailer_in bs)
    trailer_is = simp (title_length, records_count, edition, agreed.back)

    pub encode_in : encode (paper_in bs) ≡ bs
    encode_in =
        let m = (trailer_in bs).title in
        let n = 12 * (trailer_in bs).count in
        let start : length bs - 24 ≡ m + n = omega (arith, agreed.all) in
        let rest : ending (paper_in bs) ≡ drop n (drop m bs) =
        trailer_is ∙ tail_in (omega (arith, agreed.all)) ∙ ap (λ k. drop k bs) start ∙ sym (drop-drop n m bs) in
        ap (λ l. take m bs ++ (take n (drop m bs) ++ l)) rest ∙ ap (λ l. take m bs ++ l) (take-append-drop n (drop m bs)) ∙ take-append-drop m bs
