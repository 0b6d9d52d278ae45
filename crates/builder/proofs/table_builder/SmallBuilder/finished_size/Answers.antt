-- `builder::table_builder::SmallBuilder::finished_size` meets its contract.
use mathlib.Core.Path.{◌∙◌}
use native.Mathlib.Omega.{arith}
use Rattle.builder.proofs.SizeLaws.{sizes_room, sizes_fit_lem, sizes_finished}
use Rattle.builder.proofs.DecideLaws.{last_short}
use Rattle.builder.proofs.table_builder.SmallBuilder.finished_size.Goals as goal

pub last_made-f-requires : goal.last_made-f-requires
last_made-f-requires c = let r = sizes_room c.args.self.now.state.now c.args.self.now.small (last_short c.args.self.now.state.now c.args.self.now.short) c.last_sizes-d.result c.last_sizes-d.ensures in
    omega arith

pub end_size-requires : goal.end_size-requires
end_size-requires c = let d = c.last_sizes-d in
    sizes_fit_lem c.args.self.now.state.now c.args.self.now.small (last_short c.args.self.now.state.now c.args.self.now.short) d.result d.ensures c.last_made-f.result c.last_made-f.ensures

pub returns : goal.returns
returns c = let d = c.last_sizes-d in
    λ w. c.end_size.ensures ∙ sizes_finished c.args.self.now.state.now c.args.self.now.small (last_short c.args.self.now.state.now c.args.self.now.short) d.result d.ensures c.last_made-f.result c.last_made-f.ensures w
