-- `builder::table_builder::put_separator` meets its contract.
use native.Mathlib.Omega.{arith}
use Rattle.keys.specs.Order.{separator}
use Rattle.builder.proofs.NumberLaws.{front_unwrapped}
use Rattle.builder.proofs.DecideLaws.{sep_most}
use Rattle.builder.proofs.table_builder.put_separator.Goals as goal

pub returns : goal.returns
returns c = let a = c.args in
    front_unwrapped 1032 (separator a.last.now a.key.now) c.requires.0 (omega (arith, sep_most a.last.now a.key.now, c.requires.1)) c.find_internal_sep.ensures c.unwrap_or.ensures
