-- `table_block::footer::handles` meets its contract: two handles, the second from what the first left.
use mathlib.Core.Path.{◌≡◌, sym, ap, ◌∙◌}
use mathlib.Core.List.{List}
use Prim.Native.Nat.{ℕ}
use lib.ListN.{drop}
use Rattle.std.specs.Prelude.{Some}
use Rattle.codec.specs.Answers.{given}
use Rattle.codec.specs.Varint.{handle}
use Rattle.codec.proofs.BytesLaws.{part_rest}
use Rattle.codec.proofs.VarintCode.{handle_within}
use Rattle.block_reader.proofs.ExitLaws.{none_exit}
use Rattle.table_block.proofs.FooterLaws.{no_meta, no_index, meta_out, index_out, both_in}
use Rattle.table_block.proofs.footer.handles.Goals as goal
use Rattle.table_block.proofs.footer.handles.Goals.{In_ok-metaindex, In_ok-index, then-not-placed-via-then-not-placed, then-not-placed-via-else-not-placed+then-not-placed-2}

first : (c : In_ok-metaindex) → given (handle c.args.s.now) ≡ Some c.in_ok-metaindex.metaindex
first c = sym c.decode.ensures ∙ c.in_ok-metaindex.ensures.ok_part

second : (c : In_ok-index) → given (handle (drop c.in_ok-metaindex.metaindex.size c.args.s.now)) ≡ Some c.in_ok-index.index
second c =
    sym (c.decode-2.ensures ∙ ap (λ (x : List ℕ). given (handle x)) (part_rest c.args.s.now c.in_ok-metaindex.metaindex.size)) ∙ c.in_ok-index.ensures.ok_part

pub returns-in_err-metaindex : goal.returns-in_err-metaindex
returns-in_err-metaindex c = λ t l.
    none_exit c.decode.result c.from_residual.ensures.1 c.in_err-metaindex.ensures.value
    ∙ no_meta t _ (sym c.decode.ensures ∙ c.in_err-metaindex.ensures.ok_part)

pub slice_bounds-decode-count : goal.slice_bounds-decode-count
slice_bounds-decode-count c = handle_within _ (first c)

pub slice_bounds-decode-start : goal.slice_bounds-decode-start
slice_bounds-decode-start c = handle_within _ (first c)

pub returns-in_err-index : goal.returns-in_err-index
returns-in_err-index c = λ t l.
    let m = c.in_ok-metaindex.metaindex in
    none_exit c.decode-2.result c.from_residual-in_err-index.ensures.1 c.in_err-index.ensures.value
    ∙ no_index t _ (first (goal.at.returns-in_err-index c).In_ok-metaindex)
    (sym (c.decode-2.ensures ∙ ap (λ (x : List ℕ). given (handle x)) (part_rest c.args.s.now m.size)) ∙ c.in_err-index.ensures.ok_part)

pub returns-then-not-placed : goal.returns-then-not-placed
returns-then-not-placed c = λ t l.
    let m = first (goal.at.returns-then-not-placed c).In_ok-metaindex in
    let i = second (goal.at.returns-then-not-placed c).In_ok-index in
    elim c.then-not-placed.branch [
      | then-not-placed-via-then-not-placed w ↦ meta_out t _ m i (rw l (sym c.placed.ensures ∙ w.if-not-placed.true))
      | then-not-placed-via-else-not-placed+then-not-placed-2 w ↦
          index_out t _ m i (rw l (sym c.placed.ensures ∙ w.if-not-placed.false)) (rw l (sym w.placed-else-not-placed.ensures ∙ w.if-not-placed-2.true))
    ]

pub returns : goal.returns
returns c = λ t l.
    both_in t _ (first (goal.at.returns c).In_ok-metaindex) (second (goal.at.returns c).In_ok-index)
    (rw l (sym c.placed.ensures ∙ c.if-not-placed.false)) (rw l (sym c.placed-else-not-placed.ensures ∙ c.if-not-placed-2.false))
