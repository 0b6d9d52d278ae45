-- `block_builder::block_builder::Counts::plan` meets its contract.
use mathlib.Core.Path.{◌≡◌, ap, ◌∙◌}
use Prim.Native.Nat.{ℕ, ◌+◌, ◌-◌, ◌^◌, ◌≤◌}
use native.Mathlib.Omega.{arith}
use lib.ListN.{length}
use Rattle.codec.proofs.VarintLaws.{varint_bytes_length}
use Rattle.blocks.specs.Block.{sharing}
use Rattle.blocks.specs.Count.{entry_size}
use Rattle.blocks.proofs.BuildLaws.{sharing_shares}
use Rattle.block_builder.proofs.BuilderCode.{size_is, plan_long, plan_large, plan_restarts, plan_since, plan_first, plan_next}
use Rattle.block_builder.proofs.block_builder.Counts.plan.Goals as goal
use Rattle.block_builder.proofs.block_builder.Counts.plan.Goals.{After-shared_len-shared, After-varint_len-3}

-- its size, and what of it is not the value
size : (c : After-varint_len-3)
    → c.varint_len.result + c.varint_len-2.result + c.varint_len-3.result + (length c.args.key.now - c.shared_len-shared.result) + c.args.value_len
    ≡ entry_size (sharing c.args.self.interval c.args.self.since c.args.self.last.now c.args.key.now) (length c.args.key.now) c.args.value_len
size c =
    let a = c.args in
    size_is c.shared_len-shared.result (length a.key.now) a.value_len _ _ _ c.varint_len.ensures c.varint_len-2.ensures c.varint_len-3.ensures
    ∙ ap (λ (s : ℕ). entry_size s (length a.key.now) a.value_len) c.shared_len-shared.ensures

small : (c : After-varint_len-3)
    → c.varint_len.result + c.varint_len-2.result + c.varint_len-3.result + (length c.args.key.now - c.shared_len-shared.result) ≤ 1062
small c =
    let a = c.args in
    let u = varint_bytes_length c.shared_len-shared.result in
    let v = varint_bytes_length (length a.key.now - c.shared_len-shared.result) in
    let w = varint_bytes_length a.value_len in
    omega (arith, c.varint_len.ensures, c.varint_len-2.ensures, c.varint_len-3.ensures, c.if-key-gt1032.false)

pub returns-then-key-gt1032 : goal.returns-then-key-gt1032
returns-then-key-gt1032 c = plan_long _ _ _ _ c.if-key-gt1032.true

pub overflow_sub-fresh : goal.overflow_sub-fresh
overflow_sub-fresh c = let a = c.args in
    rw c.shared_len-shared.ensures (sharing_shares a.self.interval a.self.since a.self.last.now a.key.now).in_key

pub overflow_add-head : goal.overflow_add-head
overflow_add-head c = let a = c.args in
    omega (arith, c.varint_len.ensures, c.varint_len-2.ensures, varint_bytes_length c.shared_len-shared.result, varint_bytes_length (length a.key.now - c.shared_len-shared.result))

pub overflow_add-head-2 : goal.overflow_add-head-2
overflow_add-head-2 c = omega (arith, small c)

pub overflow_add-head-3 : goal.overflow_add-head-3
overflow_add-head-3 c = omega (arith, small c)

-- where it is not below 2 ^ 64, that and what the block has is not
large : (c : After-varint_len-3) → 2 ^ 64 ≤ c.args.self.bytes + (c.varint_len.result + c.varint_len-2.result + c.varint_len-3.result + (length c.args.key.now - c.shared_len-shared.result) + c.args.value_len)
    → 2 ^ 64 ≤ c.args.self.bytes + entry_size (sharing c.args.self.interval c.args.self.since c.args.self.last.now c.args.key.now) (length c.args.key.now) c.args.value_len
large c h = omega (arith, size c)

pub returns-in_err-size : goal.returns-in_err-size
returns-in_err-size c = plan_large _ _ _ _ c.from_residual.ensures.0 (large (goal.at.returns-in_err-size c).After-varint_len-3 (grind arith))

pub returns-in_err-bytes : goal.returns-in_err-bytes
returns-in_err-bytes c = plan_large _ _ _ _ c.from_residual-in_err-bytes.ensures.0 (large (goal.at.returns-in_err-bytes c).After-varint_len-3 (grind arith))

pub returns-in_err-restarts : goal.returns-in_err-restarts
returns-in_err-restarts c = plan_restarts _ _ _ _ c.from_residual-in_err-restarts.ensures.0 c.if-self.true (grind arith)

pub returns-in_ok-restarts : goal.returns-in_ok-restarts
returns-in_ok-restarts c = let z = size (goal.at.returns-in_ok-restarts c).After-varint_len-3 in
    plan_first _ _ _ _ _ _ _ c.if-key-gt1032.false c.if-self.true c.shared_len-shared.ensures (grind arith) (grind arith) (grind arith) (grind arith)

pub returns-in_err-since : goal.returns-in_err-since
returns-in_err-since c = plan_since _ _ _ _ c.from_residual-in_err-since.ensures.0 c.if-self.false (grind arith)

pub returns-in_ok-since : goal.returns-in_ok-since
returns-in_ok-since c = let z = size (goal.at.returns-in_ok-since c).After-varint_len-3 in
    plan_next _ _ _ _ _ _ _ c.if-key-gt1032.false c.if-self.false c.shared_len-shared.ensures (grind arith) (grind arith) (omega arith) (grind arith) (grind arith)
