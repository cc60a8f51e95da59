use Rattle.std.proofs.Common.{length, min, rules, tests, arith}
use Rattle.document.specs.Forms.{Blames}
use Rattle.std.proofs.lemmas.Iterator.{YieldsList-from_range}
use Rattle.std.proofs.lemmas.Iterator.Consumers.{YieldsList-from_filter_map}
use Rattle.document.specs.Bytes.{chunk_at}
use Rattle.document.proofs.Lowest.{least_same, reduced, blamed, lowest}
use Rattle.document.proofs.row.Records.lowest_faulty.Goals as goal

pub returns : goal.returns
returns c =
    let at = chunk_at c.args.self.groups.now in
    let n = length c.args.self.groups.now in
    lowest c.args.self.kind at n _
    (reduced min _ _ c.reduce.ensures.ran
    (YieldsList-from_filter_map _ (λ i. (blamed c.args.self.kind at n i).0) (YieldsList-from_range 0 n n c.filter_map.ensures.source (omega arith))
    c.filter_map.ensures.closure (λ x r q k. (search rules, least_same (Blames c.args.self.kind at n x) r (blamed c.args.self.kind at n x).0 (search rules) (blamed c.args.self.kind at n x).1)))
    (λ p x q k. search (rules, tests)))
