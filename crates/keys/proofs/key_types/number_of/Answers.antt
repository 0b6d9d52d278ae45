-- `keys::key_types::number_of` meets its contract: zeros behind the bytes add nothing.
use mathlib.Core.Path.{◌≡◌, ap}
use mathlib.Core.List.{List, [], ◌∷◌, ◌++◌}
use Prim.Native.Nat.{ℕ}
use native.Mathlib.Omega.{arith}
use lib.ListN.{length, drop, length-append, length-drop}
use Rattle.codec.specs.Bytes.{number_of}
use Rattle.codec.proofs.Lists.{below_drop}
use Rattle.codec.proofs.FixedLaws.{bytes_number}
use Rattle.keys.proofs.AnswerLaws.{number_padded}
use Rattle.keys.proofs.key_types.number_of.Goals as goal

zeros : List ℕ
zeros = 0 ∷ 0 ∷ 0 ∷ 0 ∷ 0 ∷ 0 ∷ 0 ∷ 0 ∷ []

pub returns : goal.returns
unfolding zeros
returns c =
    let s = c.args.s.now in
    let rest : List ℕ = drop (length s) zeros in
    let bytes : List ℕ = c.copy_from_slice.new.self ++ rest in
    let all : number_of bytes ≡ number_of s =
    rw c.copy_from_slice.ensures.after (number_padded s rest (below_drop 1 (length s) zeros (omega arith, (omega arith, (omega arith, (omega arith, (omega arith, (omega arith, (omega arith, (omega arith, tt)))))))))) in
    let l : length bytes ≡ 8 = omega (arith, ap length c.copy_from_slice.ensures.after, length-append c.copy_from_slice.new.self rest, length-drop (length s) zeros) in
    omega (arith, c.from_le_bytes.ensures, bytes_number 8 bytes l)
