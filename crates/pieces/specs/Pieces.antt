-- The footer's answer, in numbers.
use Rattle.std.specs.Prelude.{Result, Ok, Err}
use Rattle.table_block.specs.declared.footer.Footer.{Footer}
use Rattle.table_block.specs.declared.refusal.Refusal.{Refusal}
use Rattle.table_block.specs.Refusals.{number}
use Rattle.pieces.specs.declared.pieces.SalevoniFooter.{SalevoniFooter}

-- 0 and where the metaindex and the index stand, or the refusal's number and zeros
abbrev pub footer_out : Result Footer Refusal → SalevoniFooter
footer_out (Ok f) =
    record { answer = 0; meta_offset = f.metaindex.offset; meta_size = f.metaindex.size; index_offset = f.index.offset; index_size = f.index.size }
footer_out (Err why) = record { answer = number why; meta_offset = 0; meta_size = 0; index_offset = 0; index_size = 0 }
