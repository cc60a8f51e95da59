-- What a document that was read says. Assumes nothing.
use Rattle.document.specs.declared.sheet.Contents.{Contents}
use Rattle.document.specs.declared.judge.Document.{Document}
use Rattle.document.specs.declared.judge.Document.TheVariants.{Tree, Refutation}
use Rattle.document.specs.declared.kind.Kind.{Kind}
use Rattle.document.specs.declared.kind.Kind.TheVariants.{Tree as a_tree, Refutation as a_refutation}
use Rattle.document.specs.Bytes.{Paper}
use Rattle.std.specs.Prelude.{ℕ}

-- the paper of a letter and of what stands in it
abbrev pub contents_paper : ℕ → Contents → Paper
contents_paper letter d = record { letter = letter; title = d.title.now; records = d.records.now; first = d.first; second = d.second; game = d.game }

-- the letter T
abbrev pub tree_letter : ℕ
tree_letter = 84

-- the letter R
abbrev pub refutation_letter : ℕ
refutation_letter = 82

-- whether a document is a tree or a refutation
abbrev pub kind_of_document : Document → Kind
kind_of_document (Tree d) = a_tree
kind_of_document (Refutation d) = a_refutation

-- what a document holds, of either kind
abbrev pub contents_of : Document → Contents
contents_of (Tree d) = d
contents_of (Refutation d) = d

-- the paper of a document: a tree has the letter T, a refutation the letter R
abbrev pub document_paper : Document → Paper
document_paper (Tree d) = contents_paper tree_letter d
document_paper (Refutation d) = contents_paper refutation_letter d
