-- The code's answers, by the definitions' outcomes, and what each call promises.
use Rattle.std.specs.Prelude.{ℕ, List, length, Option, None, Some, Result, Ok, Err}
use Rattle.codec.specs.Shown.{Shown}
use Rattle.keys.specs.Order.{Point}
use Rattle.table_block.specs.declared.refusal.Refusal.{Refusal}
use Rattle.table_block.specs.Refusals.{refusal}
use Rattle.table.specs.Table.{Found}
use Rattle.table.specs.Reads
use Rattle.table.specs.Reads.{Answer, refused, nothing, found, deleted, seek_says, lookup_says, step_says}
use Rattle.reader.specs.declared.table_reader.Entry.{Entry}
use Rattle.reader.specs.declared.table_reader.Found as FoundEnum
use Rattle.reader.specs.declared.table_reader.Found.TheVariants as FoundCase

-- an entry in numbers: its place, how long its key is, where its value starts and how long that is
unfoldable pub entry_of : Found → Entry
entry_of x =
    record {
      place = record { index = x.index_start; entry = x.start };
      key_len = length x.key;
      value_at = x.value_at;
      value_len = length x.value;
    }

-- what a seek or a step answers: an entry, none, or why it is refused
abbrev pub Sought : Type 0
Sought = Result (Option Entry) Refusal

-- so of an outcome
unfoldable pub sought_of : Answer → Sought
sought_of (refused n) = Err (refusal n)
sought_of nothing = Ok None
sought_of (found x) = Ok (Some (entry_of x))
sought_of (deleted x) = Ok (Some (entry_of x))

-- a seek for a point in a table answers r and turns the key buffer k into k'
abbrev pub Seeks : List ℕ → Point → List ℕ → Sought → List ℕ → Type 0
Seeks t p k r k' = Shown sought_of (λ a. Reads.Sought t p (seek_says t p) k a k') r

-- a step from a place likewise
abbrev pub Steps : List ℕ → ℕ → ℕ → List ℕ → Sought → List ℕ → Type 0
Steps t ix at k r k' = Shown sought_of (λ a. Reads.Stepped t (step_says t ix at) k a k') r

-- what a lookup answers: an entry, a deletion, absent, or why it is refused
abbrev pub Looked : Type 0
Looked = Result FoundEnum.Found Refusal

-- so of an outcome
unfoldable pub looked_of : Answer → Looked
looked_of (refused n) = Err (refusal n)
looked_of nothing = Ok FoundCase.Absent
looked_of (found x) = Ok (FoundCase.Entry (entry_of x))
looked_of (deleted x) = Ok (FoundCase.Deleted (entry_of x))

-- a lookup of a point likewise
abbrev pub Looks : List ℕ → Point → List ℕ → Looked → List ℕ → Type 0
Looks t p k r k' = Shown looked_of (λ a. Reads.Sought t p (lookup_says t p) k a k') r
