-- `builder::table_builder::put_key` meets its contract.
use Rattle.keys.specs.Order.{internal}
use Rattle.builder.proofs.NumberLaws.{front_unwrapped}
use Rattle.builder.proofs.TraceLaws.{key_short}
use Rattle.builder.proofs.table_builder.put_key.Goals as goal

pub returns : goal.returns
returns c = let a = c.args in
    front_unwrapped 1032 (internal a.word.now a.edition a.kind) c.requires.0 (key_short a.word.now a.edition a.kind c.requires.1) c.build_internal_key.ensures c.unwrap_or.ensures
