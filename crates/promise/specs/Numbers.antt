-- The refusals of the code go by name, those of the definitions by number. Here each number that a definition refuses with is that of its refusal, so
-- that an answer by name says which number it is, and no two numbers are one refusal.
use Rattle.std.specs.Prelude.{ℕ, ◌≡◌, Bool, List, ◌⊎◌, T}
use Rattle.table.specs.Checked.{Checked, pass, refuse}
use Rattle.table.specs.Options.{Options, Addition}
use Rattle.table.specs.Runs.{Runs, start_of}
use Rattle.table.specs.Build.{Building, accept}
use Rattle.table.specs.Table.{footer, full_check}
use Rattle.table.specs.Reads.{refused, listed}
use Rattle.table_block.specs.Refusals.{number, refusal}
use Rattle.builder.specs.declared.table_builder.Builder.{Builder}
use Rattle.builder.specs.declared.table_builder.Lengths.{Lengths}
use Rattle.builder.specs.Steps.{early_of}

-- a number is that of its refusal
abbrev pub Stands : ℕ → Type 0
Stands n = number (refusal n) ≡ n

-- tests refuse with such numbers alone
abbrev pub Numbered : {A : Type 0} → Checked A → Type 0
Numbered (pass a) = Unit {0}
Numbered (refuse n) = Stands n

-- the full check
abbrev pub check_numbered : Type 0
check_numbered = (t : List ℕ) → Numbered (full_check t)

-- the footer, and with it seek, lookup and step of a table whose footer is refused
abbrev pub footer_numbered : Type 0
footer_numbered = (t : List ℕ) → Numbered (footer t)

-- what the listed exception lets a read refuse with
abbrev pub read_numbered : Type 0
read_numbered = (t : List ℕ) (n : ℕ) → T (listed t (refused n)) → Stands n

-- start
abbrev pub start_numbered : Type 0
start_numbered = (o : Options) (r : Runs) → Numbered (start_of o r)

-- the refusals 6, 2 and 3 of add and finish
abbrev pub early_numbered : Type 0
early_numbered = (s : Builder) (l : Lengths) (fits : Bool) → (early_of s l fits ≡ 0) ⊎ Stands (early_of s l fits)

-- an addition
abbrev pub accept_numbered : Type 0
accept_numbered = (o : Options) (room : ℕ) (b : Building) (a : Addition) → Numbered (accept o room b a)
