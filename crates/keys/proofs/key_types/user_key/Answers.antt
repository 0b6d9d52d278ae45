-- `keys::key_types::user_key` meets its contract.
use mathlib.Core.Path.{ap}
use Prim.Native.Nat.{ℕ}
use lib.ListN.{take}
use Rattle.keys.specs.Order.{user_of}
use Rattle.keys.proofs.key_types.user_key.Goals as goal

pub returns : goal.returns
unfolding user_of
returns c = ap (λ (n : ℕ). take n c.args.key.now) c.saturating_sub.ensures
