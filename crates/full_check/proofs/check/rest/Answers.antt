-- `full_check::check::rest` meets its contract.
use mathlib.Core.Path.{sym, ap, ◌∙◌}
use mathlib.Core.Option.{Option}
use Rattle.codec.specs.Varint.{Handle}
use Rattle.codec.proofs.GivenLaws.{said}
use Rattle.blocks.specs.Block.{pairs_of}
use Rattle.full_check.specs.Answers.{verdict_of}
use Rattle.full_check.specs.Steps.{with_filter}
use Rattle.full_check.proofs.CheckLaws.{no_filter}
use Rattle.full_check.proofs.check.rest.Goals as goal

pub returns-in-None : goal.returns-in-None
returns-in-None c = let t = c.args.table.now in
    λ ms es meta read. c.blocks_in.ensures es read ∙ ap verdict_of (sym (ap (λ (o : Option Handle). with_filter t o (pairs_of es)) (said _ (sym (c.bloom_handle.ensures.answer ms meta) ∙ c.in-None.is)) ∙ no_filter t (pairs_of es)))

pub returns-in-Some : goal.returns-in-Some
returns-in-Some c = let t = c.args.table.now in
    λ ms es meta read. c.filtered.ensures es read ∙ ap verdict_of (sym (ap (λ (o : Option Handle). with_filter t o (pairs_of es)) (said _ (sym (c.bloom_handle.ensures.answer ms meta) ∙ c.in-Some.is))))
