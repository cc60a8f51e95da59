-- The number and the stage of each check: the one place that fixes them. Assumes nothing.
use Rattle.std.specs.Prelude.{ℕ, List, ◌++◌, codes, decimal}
use Rattle.fault.specs.declared.Check.{Check}
use Rattle.fault.specs.declared.Check.TheVariants.{FileTooShort, KindOrEdition, Lengths, TitleByte, Figure, RecordForm, OutputTooShort, GameParameters, TableShape, BlurTable, HintPair, NinthHint}
use Rattle.fault.specs.declared.Fault.{Fault}
use Rattle.fault.specs.declared.Place.{Place}
use Rattle.fault.specs.declared.Place.TheVariants.{Nowhere, Record as at_record, Code as at_code}
use Rattle.fault.specs.declared.Stage.{Stage}
use Rattle.fault.specs.declared.Stage.TheVariants.{Rule, File, Record}

abbrev pub number_of : Check → ℕ
number_of FileTooShort = 1
number_of KindOrEdition = 2
number_of Lengths = 3
number_of TitleByte = 4
number_of Figure = 6
number_of RecordForm = 7
number_of OutputTooShort = 21
number_of GameParameters = 17
number_of TableShape = 18
number_of BlurTable = 19
number_of HintPair = 20
number_of NinthHint = 32

abbrev pub stage_of : Check → Stage
stage_of FileTooShort = File
stage_of KindOrEdition = File
stage_of Lengths = File
stage_of TitleByte = File
stage_of Figure = File
stage_of RecordForm = Record
stage_of OutputTooShort = File
stage_of GameParameters = Rule
stage_of TableShape = Rule
stage_of BlurTable = Rule
stage_of HintPair = Rule
stage_of NinthHint = Rule

-- the fault of a check that blames a place
abbrev pub fault_at : Check → Place → Fault
fault_at check place = record { number = number_of check; stage = stage_of check; place = place }

-- the fault of a check that blames no part of the input
abbrev pub refusal : Check → Fault
refusal check = fault_at check Nowhere

-- what is printed for a place
abbrev pub place_text : Place → List ℕ
place_text Nowhere = codes "-"
place_text (at_record n) = codes "r" ++ decimal n
place_text (at_code n) = codes "c" ++ decimal n
