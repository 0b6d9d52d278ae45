-- `table_write::table_write::close_index` meets its contract.
use mathlib.Core.Path.{refl, sym, ◌∙◌}
use mathlib.Core.Bool.{false≢true}
use Rattle.std.specs.Prelude.{Ok}
use Rattle.table_write.specs.Writes.{size_of}
use Rattle.table_write.proofs.table_write.close_index.Goals as goal

pub returns-then-not-closing : goal.returns-then-not-closing
returns-then-not-closing c = record { added = Ok tt; after = c.args.indexed.now; done = λ t. absurd (false≢true (sym (c.if-not-closing.true) ∙ t)); kept = λ t. (refl, refl) }

pub returns : goal.returns
unfolding size_of
returns c = record {
  added = c.add.result;
  after = c.add.new.self;
  done = λ t. rw (← c.size_estimate-size.ensures, ← c.put_handle-n.ensures.1.1) c.add.ensures;
  kept = λ t. absurd (false≢true (sym t ∙ c.if-not-closing.false));
}
