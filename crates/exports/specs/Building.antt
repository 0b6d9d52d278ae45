-- The builder's state and its answers, in numbers.
use Rattle.std.specs.Prelude.{ℕ, ◌≡◌, cond, not, eqb, Option, None, Some, Result, Ok, Err}
use Rattle.codec.specs.Shown.{Shown}
use Rattle.table.specs.Options.{Addition}
use Rattle.table.specs.Runs.{Runs}
use Rattle.table_block.specs.declared.refusal.Refusal.{Refusal}
use Rattle.table_block.specs.Refusals.{number}
use Rattle.builder.specs.State.{begun}
use Rattle.builder.specs.Answers.{Added, Finished, StartedIs, AddedIs, FinishedIs}
use Rattle.builder.specs.declared.table_builder.Builder.{Builder}
use Rattle.builder.specs.declared.table_builder.Options.{Options}
use Rattle.exports.specs.declared.building.SalevoniState.{SalevoniState}
use Rattle.exports.specs.declared.building.SalevoniBuilt.{SalevoniBuilt}

-- ---- the state

-- a filter choice: 0 is none, any other number so many bits per key
abbrev pub filter_in : ℕ → ℕ → Option ℕ
filter_in n bits = cond (eqb n 0) None (Some bits)

-- the number of a choice
abbrev pub filter_number : Option ℕ → ℕ
filter_number None = 0
filter_number (Some b) = 1

-- its bits per key
abbrev pub filter_bits : Option ℕ → ℕ
filter_bits None = 0
filter_bits (Some b) = b

-- the builder of a state
unfoldable pub builder_in : SalevoniState → Builder
builder_in s =
    record {
      options = record { block_size = s.block_size; interval = s.interval; filter = filter_in s.filter s.bits };
      lengths = s.lengths;
      written = s.written;
      pending = s.pending;
      indexed = s.indexed;
      filtered = s.filtered;
      made = s.made;
      waiting = s.waiting;
      finished = not (eqb s.finished 0);
    }

-- the state of a builder
unfoldable pub state_out : Builder → SalevoniState
state_out b =
    record {
      block_size = b.options.block_size;
      interval = b.options.interval;
      filter = filter_number b.options.filter;
      bits = filter_bits b.options.filter;
      lengths = b.lengths;
      written = b.written;
      pending = b.pending;
      indexed = b.indexed;
      filtered = b.filtered;
      made = b.made;
      waiting = b.waiting;
      finished = cond b.finished 1 0;
    }

-- nothing is lost: a state that came out goes in as the builder it was
abbrev pub state_kept : Type 0
state_kept = (b : Builder) → builder_in (state_out b) ≡ b

-- ---- the answers

-- the state of nothing, that comes with a refusal of start
abbrev pub nothing : SalevoniState
nothing = state_out (begun
    (record { block_size = 0; interval = 0; filter = None })
    (record { out = 0; index = 0; filters = 0; restarts = 0; index_restarts = 0; offsets = 0; hashes = 0 }))

-- 0 with the table's size and a new state
abbrev pub built : ℕ → Builder → SalevoniBuilt
built n b = record { answer = 0; size = n; state = state_out b }

-- a refusal's number with a state
abbrev pub refused : SalevoniState → Refusal → SalevoniBuilt
refused s why = record { answer = number why; size = 0; state = s }

-- what start answers
abbrev pub started_out : Result Builder Refusal → SalevoniBuilt
started_out (Ok b) = built 0 b
started_out (Err why) = refused nothing why

-- an answer that is done or refused: a refusal comes with the state that went in
abbrev pub answered : SalevoniState → Builder → Result ℕ Refusal → SalevoniBuilt
answered before b (Ok n) = built n b
answered before b (Err why) = refused before why

-- an answer of add as one of finish: the size is 0
abbrev pub sized : Result (Unit {0}) Refusal → Result ℕ Refusal
sized (Ok u) = Ok 0
sized (Err why) = Err why

-- what add answers: a refusal comes with the state that went in
abbrev pub added_out : SalevoniState → Added → SalevoniBuilt
added_out before x = answered before x.state (sized x.answer)

-- what finish answers
abbrev pub finished_out : SalevoniState → Finished → SalevoniBuilt
finished_out before x = answered before x.state x.answer

-- start answers x and turns the runs r into r'
abbrev pub StartsOut : Options → Runs → Runs → SalevoniBuilt → Type 0
StartsOut o r r' x = Shown started_out (λ y. StartedIs o r r' y) x

-- add of a state likewise
abbrev pub AddsOut : SalevoniState → Runs → Runs → Addition → SalevoniBuilt → Type 0
AddsOut s r r' a x = Shown (added_out s) (λ y. AddedIs (builder_in s) r r' a y) x

-- finish of a state likewise
abbrev pub FinishesOut : SalevoniState → Runs → Runs → SalevoniBuilt → Type 0
FinishesOut s r r' x = Shown (finished_out s) (λ y. FinishedIs (builder_in s) r r' y) x
