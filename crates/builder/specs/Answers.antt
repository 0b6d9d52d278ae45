-- What start, add and finish answer, and what they leave in the state and the lent runs.
use Rattle.std.specs.Prelude.{ℕ, ◌≡◌, ◌⊎◌, true, List, length, Result, Ok, Err}
use Rattle.table_block.specs.declared.refusal.Refusal as Why
use Rattle.table_block.specs.declared.refusal.Refusal.TheVariants.{Order, Full}
use Rattle.table_block.specs.Refusals.{refusal}
use Rattle.table.specs.Checked.{Checked, pass, refuse}
use Rattle.table.specs.Options.{Options, Addition, addition_fits}
use Rattle.table.specs.Build.{Building, begin, finish, accept, accept_all}
use Rattle.table.specs.Runs.{Runs, room_of, start_of, between, finished, overlaid}
use Rattle.builder.specs.declared.table_builder.Options as Given
use Rattle.builder.specs.declared.table_builder.Builder.{Builder}
use Rattle.builder.specs.State.{options_of, lengths_of, begun, Stands}
use Rattle.builder.specs.Steps.{early_of}

module _ {A : Type 0} where
  -- start and add: that it passed, or why it is refused
  unfoldable pub answer_of : Checked A → Result (Unit {0}) Why.Refusal
  answer_of (pass a) = Ok tt
  answer_of (refuse n) = Err (refusal n)

  -- the state that start gives, or why it gives none
  unfoldable pub started : Given.Options → Runs → Checked A → Result Builder Why.Refusal
  started o r (pass a) = Ok (begun o (lengths_of r))
  started o r (refuse n) = Err (refusal n)

-- start answers s and leaves the runs so: 1 and 2 are exact, nothing is written, and what it gives stands for nothing added yet
pub record StartedIs (o : Given.Options) (r r' : Runs) (s : Result Builder Why.Refusal) : Type 0 where
  pub said : s ≡ started o r (start_of (options_of o) r)
  pub kept : r' ≡ r
  pub stands : start_of (options_of o) r ≡ pass tt → Stands (options_of o) begin (begun o (lengths_of r)) r'

-- ---- add

-- what add answers, and the state that it leaves
pub record Added : Type 0 where
  pub answer : Result (Unit {0}) Why.Refusal
  pub state : Builder

-- what add answers where it is neither 6, 2 nor 3
abbrev pub Later : Result (Unit {0}) Why.Refusal → Type 0
Later (Ok u) = Unit {0}
Later (Err e) = (e ≡ Order) ⊎ (e ≡ Full)

-- an addition to a table being built answers as the definitions say; where it is accepted, the state and the runs stand for the table with it, and
-- the rest of the runs is unchanged
pub record Traced (o : Options) (b : Building) (r r' : Runs) (a : Addition) (x : Added) : Type 0 where
  pub answer : x.answer ≡ answer_of (accept o (room_of (length r.out)) b a)
  pub stands : (c : Building) → accept o (room_of (length r.out)) b a ≡ pass c → Stands o c x.state r'
  pub runs : (c : Building) → accept o (room_of (length r.out)) b a ≡ pass c → r' ≡ overlaid (between o c) r

-- add answers x and leaves the runs so: 6, 2 and 3 are exact and a refusal leaves all as it was, for every state at all; of a state and runs that stand
-- for accepted additions all is exact
pub record AddedIs (s : Builder) (r r' : Runs) (a : Addition) (x : Added) : Type 0 where
  pub early : (early_of s (lengths_of r) (addition_fits a) ≡ 0 → ⊥) → x.answer ≡ Err (refusal (early_of s (lengths_of r) (addition_fits a)))
  pub later : early_of s (lengths_of r) (addition_fits a) ≡ 0 → Later x.answer
  pub refused : (e : Why.Refusal) → x.answer ≡ Err e → (x.state ≡ s) × (r' ≡ r)
  pub traced : (o : Options) (more : List Addition) (b : Building) → accept_all o (room_of (length r.out)) begin more ≡ pass b → Stands o b s r → Traced o b r r' a x

-- ---- finish

-- what finish answers, and the state that it leaves
pub record Finished : Type 0 where
  pub answer : Result ℕ Why.Refusal
  pub state : Builder

-- the state after finish
unfoldable pub over_state : Builder → Builder
over_state s =
    record {
      options = s.options;
      lengths = s.lengths;
      written = s.written;
      pending = s.pending;
      indexed = s.indexed;
      filtered = s.filtered;
      made = s.made;
      waiting = s.waiting;
      finished = true;
    }

-- finish answers x and leaves the runs so: 6 and 2 are exact, and a refusal leaves all as it was, for every state at all; of a state and runs that stand
-- for accepted additions it answers the table's size, and the runs hold the table, with the last block and filter closed, the rest unchanged
pub record FinishedIs (s : Builder) (r r' : Runs) (x : Finished) : Type 0 where
  pub early : (early_of s (lengths_of r) true ≡ 0 → ⊥) → x.answer ≡ Err (refusal (early_of s (lengths_of r) true))
  pub later : early_of s (lengths_of r) true ≡ 0 → (e : Why.Refusal) → x.answer ≡ Err e → e ≡ Full
  pub refused : (why : Why.Refusal) → x.answer ≡ Err why → (x.state ≡ s) × (r' ≡ r)
  pub over : (n : ℕ) → x.answer ≡ Ok n → x.state ≡ over_state s
  pub answer : (o : Options) (more : List Addition) (b : Building) → accept_all o (room_of (length r.out)) begin more ≡ pass b → Stands o b s r
      → x.answer ≡ Ok (length (finish o b))
  pub runs : (o : Options) (more : List Addition) (b : Building) → accept_all o (room_of (length r.out)) begin more ≡ pass b → Stands o b s r
      → r' ≡ overlaid (finished o b) r
