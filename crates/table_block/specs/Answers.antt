-- The code's answers, by the definitions' outcomes.
use Rattle.std.specs.Prelude.{ℕ, ◌≡◌, List, Result, Ok, Err}
use Rattle.std.specs.Prelude as code
use Rattle.std.proofs.Math.Option.{some}
use Rattle.codec.specs.Answers.{given}
use Rattle.codec.specs.Varint.{Handle}
use Rattle.blocks.specs.Block.{Entry, pairs_of}
use Rattle.blocks.specs.Search.{readable}
use Rattle.table_block.specs.declared.footer.Footer as Declared
use Rattle.table_block.specs.declared.refusal.Refusal.{Refusal}
use Rattle.table_block.specs.Refusals.{refusal}
use Rattle.table.specs.Checked.{Checked, pass, refuse}
use Rattle.table.specs.Table.{Footer, bloom_handle}

-- a footer: where the metaindex and the index stand, or the refusal of the number
unfoldable pub footer_answer : Checked Footer → Result Declared.Footer Refusal
footer_answer (pass f) = Ok (record { metaindex = f.metaindex; index = f.index })
footer_answer (refuse n) = Err (refusal n)

-- reading the filter block's handle from a metaindex answers r: what its entries name, where it is readable
pub record BloomRead (s : List ℕ) (r : code.Option Handle) : Type 0 where
  pub answer : (es : List Entry) → readable s ≡ some es → r ≡ given (bloom_handle (pairs_of es))
