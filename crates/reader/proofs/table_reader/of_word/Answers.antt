-- `reader::table_reader::of_word` meets its contract.
use mathlib.Core.Path.{◌≡◌, sym, ◌∙◌, ap}
use mathlib.Core.Bool.{Bool}
use mathlib.Core.List.{List}
use Prim.Native.Nat.{ℕ}
use lib.ListN.{take}
use Rattle.std.specs.Prelude.{Ok}
use Rattle.block_reader.proofs.ExitLaws.{handed_on}
use Rattle.codec.specs.Bytes.{same_bytes}
use Rattle.keys.specs.Order.{user_of}
use Rattle.reader.proofs.LookLaws.{word_refused, word_none, word_is}
use Rattle.reader.proofs.table_reader.of_word.Goals as goal
use Rattle.reader.proofs.table_reader.of_word.Goals.{After-same}

-- the test of the user key
user : (c : After-same) {b : Bool} → c.same.result ≡ b → b ≡ same_bytes (user_of (take c.in-Some.found.key_len c.args.buf.now)) c.args.word.now
user c e = sym e ∙ c.same.ensures ∙ ap (λ (k : List ℕ). same_bytes k c.args.word.now) c.user_key.ensures

pub returns-in_err-found : goal.returns-in_err-found
returns-in_err-found c = λ a shown holds.
    rw (handed_on _ c.from_residual.ensures.1) (word_refused _ a shown c.in_err-found.was)

pub returns-in_default : goal.returns-in_default
returns-in_default c = λ a shown holds. word_none _ a shown (c.in_ok-found.was ∙ ap Ok c.in_default.is)

pub returns-then-not-same : goal.returns-then-not-same
returns-then-not-same c = λ a shown holds. word_is _ a shown _ (c.in_ok-found.was ∙ ap Ok c.in-Some.is) (user (goal.at.returns-then-not-same c).After-same c.if-not-same.true) holds

pub returns : goal.returns
returns c = λ a shown holds. word_is _ a shown _ (c.in_ok-found.was ∙ ap Ok c.in-Some.is) (user (goal.at.returns c).After-same c.if-not-same.false) holds
