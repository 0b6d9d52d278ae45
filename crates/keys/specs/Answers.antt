-- The code's answers, by the definitions' outcomes.
use Prim.Native.Nat.{ℕ, suc, zero, ◌-◌, Ordering}
use Rattle.std.specs.Prelude.{Bool, true, false, List, ltb, length, Option, None, Some}
use Rattle.std.specs.Ordering.{is_lt}
use Rattle.std.specs.declared.cmp.Ordering as OrderingEnum
use Rattle.std.specs.declared.cmp.Ordering.TheVariants as OrderCase
use Rattle.keys.specs.declared.key_types.ParsedKey.{ParsedKey}
use Rattle.keys.specs.declared.key_types.ValueType.{ValueType}
use Rattle.keys.specs.declared.key_types.ValueType.TheVariants as KindCase
use Rattle.keys.specs.Order.{seq_of, kind_of}

-- a comparison
unfoldable pub order_answer : Ordering → OrderingEnum.Ordering
order_answer Ordering.lt = OrderCase.Less
order_answer Ordering.eq = OrderCase.Equal
order_answer Ordering.gt = OrderCase.Greater

-- it says "less"
abbrev pub says_less : OrderingEnum.Ordering → Bool
says_less = is_lt

-- a kind byte: 0 is a deletion, any other a value
unfoldable pub kind_answer : ℕ → ValueType
kind_answer zero = KindCase.TypeDeletion
kind_answer (suc n) = KindCase.TypeValue

-- an internal key's parts: how long its user key is, its sequence and its kind; a key shorter than 8 bytes has none
unfoldable pub key_answer : List ℕ → Option ParsedKey
key_answer k =
    elim (ltb (length k) 8) [ true ↦ None | false ↦ Some (record { user_len = length k - 8; sequence = seq_of k; kind = kind_answer (kind_of k) }) ]
