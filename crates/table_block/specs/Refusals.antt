-- Why a call is refused, and the number and the sentence of each reason.
use Rattle.std.specs.Prelude.{ℕ, List, [], ◌∷◌, get_or, codes}
use Rattle.table_block.specs.declared.refusal.Refusal.{Refusal}
use Rattle.table_block.specs.declared.refusal.Refusal.TheVariants.{Options, Short, Limits, Order, Full, Finished, NoTable, Outside, Checksum, Malformed, Unordered, Filter, NoPlace}

-- the number of a refusal
abbrev pub number : Refusal → ℕ
number Options = 1
number Short = 2
number Limits = 3
number Order = 4
number Full = 5
number Finished = 6
number NoTable = 7
number Outside = 8
number Checksum = 9
number Malformed = 10
number Unordered = 11
number Filter = 12
number NoPlace = 14

-- the refusals by their numbers; no call is refused with another number
abbrev pub refusals : List Refusal
refusals = NoPlace ∷ Options ∷ Short ∷ Limits ∷ Order ∷ Full ∷ Finished ∷ NoTable ∷ Outside ∷ Checksum ∷ Malformed ∷ Unordered ∷ Filter ∷ []

-- the refusal of a number
abbrev pub refusal : ℕ → Refusal
refusal n = get_or refusals n NoPlace

-- what `{}` prints of a refusal
abbrev pub sentence : Refusal → List ℕ
sentence Options = codes "an option is outside its limits"
sentence Short = codes "a lent run is too short"
sentence Limits = codes "key, value, edition or kind is outside its limits"
sentence Order = codes "the key is not above the last one"
sentence Full = codes "the table would not fit"
sentence Finished = codes "the table is finished"
sentence NoTable = codes "it is too short or too long, or does not end as a table does"
sentence Outside = codes "a block would not lie inside it"
sentence Checksum = codes "a block is not what its checksum says"
sentence Malformed = codes "a block is malformed"
sentence Unordered = codes "keys are out of order"
sentence Filter = codes "the filter is malformed or denies an entry"
sentence NoPlace = codes "no entry starts at the place"
