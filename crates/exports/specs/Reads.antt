-- The answers of the full check and the reads, in numbers.
use Rattle.std.specs.Prelude.{ℕ, ◌≡◌, List, None, Some, Result, Ok, Err}
use Rattle.codec.specs.Shown.{Shown}
use Rattle.keys.specs.Order.{Point}
use Rattle.table.specs.Table.{full_check}
use Rattle.full_check.specs.Answers.{verdict_of}
use Rattle.table_block.specs.Refusals.{number}
use Rattle.table_block.specs.declared.refusal.Refusal.{Refusal}
use Rattle.reader.specs.Answers.{Sought, Seeks, Looked, Looks, Steps}
use Rattle.reader.specs.declared.table_reader.Entry.{Entry}
use Rattle.reader.specs.declared.table_reader.Found.TheVariants as FoundCase
use Rattle.exports.specs.declared.reads.SalevoniEntry.{SalevoniEntry}

-- a verdict that passes is 0, a refusal its number
abbrev pub verdict_number : Result (Unit {0}) Refusal → ℕ
verdict_number (Ok u) = 0
verdict_number (Err e) = number e

-- an entry with a number
abbrev pub entry_with : ℕ → Entry → SalevoniEntry
entry_with n e =
    record {
      answer = n;
      index = e.place.index;
      entry = e.place.entry;
      key_len = e.key_len;
      value_at = e.value_at;
      value_len = e.value_len;
    }

-- a number alone
abbrev pub no_entry : ℕ → SalevoniEntry
no_entry n = record { answer = n; index = 0; entry = 0; key_len = 0; value_at = 0; value_len = 0 }

-- seek and step: 0 with an entry, 100 for none, or the refusal's number
abbrev pub sought_out : Sought → SalevoniEntry
sought_out (Ok (Some e)) = entry_with 0 e
sought_out (Ok None) = no_entry 100
sought_out (Err why) = no_entry (number why)

-- lookup: 0 with an entry, 101 with a deletion, 100 for absent, or the refusal's number
abbrev pub looked_out : Looked → SalevoniEntry
looked_out (Ok (FoundCase.Entry e)) = entry_with 0 e
looked_out (Ok (FoundCase.Deleted e)) = entry_with 101 e
looked_out (Ok FoundCase.Absent) = no_entry 100
looked_out (Err why) = no_entry (number why)

-- the full check answers r
abbrev pub ChecksOut : List ℕ → ℕ → Type 0
ChecksOut t r = Shown verdict_number (λ x. x ≡ verdict_of (full_check t)) r

-- a seek answers r and turns the key buffer k into k'
abbrev pub SeeksOut : List ℕ → Point → List ℕ → SalevoniEntry → List ℕ → Type 0
SeeksOut t p k r k' = Shown sought_out (λ x. Seeks t p k x k') r

-- a lookup likewise
abbrev pub LooksOut : List ℕ → Point → List ℕ → SalevoniEntry → List ℕ → Type 0
LooksOut t p k r k' = Shown looked_out (λ x. Looks t p k x k') r

-- a step from a place likewise
abbrev pub StepsOut : List ℕ → ℕ → ℕ → List ℕ → SalevoniEntry → List ℕ → Type 0
StepsOut t ix at k r k' = Shown sought_out (λ x. Steps t ix at k x k') r
