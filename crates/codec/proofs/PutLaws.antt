-- Laws of bytes that are written at a place of a list.
use Prim.Native.Nat.{ℕ, suc, ◌+◌, ◌-◌, ◌≤◌, ◌<◌}
use mathlib.Core.Path.{◌≡◌, refl, sym, ap, ap₂, ◌∙◌}
use mathlib.Core.List.{List, [], ◌∷◌, ◌++◌, append_assoc}
use native.Mathlib.Nat.{zero-add, add-zero, add-suc, suc-add, add_assoc}
use native.Mathlib.Decide.{dec_le}
use native.Mathlib.Omega.{arith}
use lib.ListN.{length, take, drop, set, length-append, take-append-drop}
use lib.Seq.{sets, sets-eq, length-sets, length-take-le, drop_at, take_at, drop-append-le, drop-drop}
use borrow.Author.Tests.{le-leb, lt-leb}
use Rattle.codec.specs.Bytes.{part}
use Rattle.std.specs.Prelude.{Result, Ok, Err, IsErr}
use Rattle.codec.specs.declared.put.NoRoom.{NoRoom}
use Rattle.codec.specs.Put.{room, no_room, put_answer, put, Wrote}
use Rattle.codec.proofs.Prelude.{split, apart}
use Rattle.codec.proofs.BytesLaws.{part_front}

-- ---- with room

pub answer_room : (d : List ℕ) (at : ℕ) (bs : List ℕ) → at + length bs ≤ length d → put_answer d at bs ≡ Ok (at + length bs)
unfolding put_answer room
answer_room d at bs h = rw (le-leb (at + length bs) (length d) h)

pub put_room : (d : List ℕ) (at : ℕ) (bs : List ℕ) → at + length bs ≤ length d → put d at bs ≡ take at d ++ bs ++ drop (at + length bs) d
unfolding put room
put_room d at bs h = rw (le-leb (at + length bs) (length d) h)

-- the stores one after the other
pub put_sets : (d : List ℕ) (at : ℕ) (bs : List ℕ) → at + length bs ≤ length d → put d at bs ≡ sets d at bs
put_sets d at bs h = put_room d at bs h ∙ sym (sets-eq bs d at h)

-- ---- without

pub answer_full : (d : List ℕ) (at : ℕ) (bs : List ℕ) → length d < at + length bs → put_answer d at bs ≡ no_room
unfolding put_answer room
answer_full d at bs h = rw (lt-leb (at + length bs) (length d) h)

pub put_full : (d : List ℕ) (at : ℕ) (bs : List ℕ) → length d < at + length bs → put d at bs ≡ d
unfolding put room
put_full d at bs h = rw (lt-leb (at + length bs) (length d) h)

-- ---- for a function that writes

pub wrote_full : (d : List ℕ) (at : ℕ) (bs : List ℕ) → length d < at + length bs → Wrote d at bs no_room d
wrote_full d at bs h = record { said = sym (answer_full d at bs h); left = sym (put_full d at bs h) }

pub wrote_sets : (d : List ℕ) (at : ℕ) (bs : List ℕ) (next : ℕ) (e : List ℕ) → at + length bs ≤ length d → next ≡ at + length bs → e ≡ sets d at bs → Wrote d at bs (Ok next) e
wrote_sets d at bs next e h p q = record { said = ap Ok p ∙ sym (answer_room d at bs h); left = q ∙ sym (put_sets d at bs h) }

-- a part of n bytes that was lent and came back with other bytes
pub mid_put : (d : List ℕ) (at : ℕ) (ys : List ℕ) (n : ℕ) → n ≡ length ys → at + n ≤ length d → take at d ++ (ys ++ drop n (drop at d)) ≡ put d at ys
mid_put d at ys n e h =
    ap (λ (l : List ℕ). take at d ++ (ys ++ l)) (drop-drop n at d)
    ∙ sym (append_assoc (take at d) ys (drop (at + n) d))
    ∙ ap (λ (m : ℕ). take at d ++ ys ++ drop (at + m) d) e
    ∙ sym (put_room d at ys (omega arith))

no_room_is : (r : Result ℕ NoRoom) → IsErr r → r ≡ no_room
no_room_is (Err e) h = refl
no_room_is (Ok n) h = apart cc

-- where there is no room, any error says so
pub wrote_exit : {d : List ℕ} {at : ℕ} {bs : List ℕ} {r : Result ℕ NoRoom} → IsErr r → length d < at + length bs → Wrote d at bs r d
wrote_exit {d} {at} {bs} {r} e h = let q : r ≡ no_room = no_room_is r e in rw q (wrote_full d at bs h)

-- a part that was lent and came back with the bytes
pub wrote_mid : (d : List ℕ) (at : ℕ) (bs : List ℕ) {next : ℕ} {e : List ℕ} → at + length bs ≤ length d → next ≡ at + length bs → e ≡ bs
    → Wrote d at bs (Ok next) (take at d ++ (e ++ drop (next - at) (drop at d)))
wrote_mid d at bs {next} {e} h n q =
    record {
      said = ap Ok n ∙ sym (answer_room d at bs h);
      left = ap (λ (l : List ℕ). take at d ++ (l ++ drop (next - at) (drop at d))) q ∙ mid_put d at bs (next - at) (omega arith) (omega arith);
    }

-- ---- for its caller

pub put_length : (d : List ℕ) (at : ℕ) (bs : List ℕ) → length (put d at bs) ≡ length d
put_length d at bs =
    elim (dec_le (at + length bs) (length d)) [
      | yes h ↦ ap length (put_sets d at bs h) ∙ length-sets d at bs
      | no h ↦ ap length (put_full d at bs (omega arith))
    ]

pub sets_append : (d : List ℕ) (at : ℕ) (bs cs : List ℕ) → sets (sets d at bs) (at + length bs) cs ≡ sets d at (bs ++ cs)
sets_append d at [] cs = rw add-zero
sets_append d at (b ∷ bs) cs = rw (add-suc, ← suc-add) (sets_append _ (suc at) bs cs)

-- two writes, the second where the first ends, are one
pub put_put : (d : List ℕ) (at : ℕ) (bs cs : List ℕ) → at + length bs + length cs ≤ length d → put (put d at bs) (at + length bs) cs ≡ put d at (bs ++ cs)
put_put d at bs cs h =
    let l : length (bs ++ cs) ≡ length bs + length cs = length-append bs cs in
    ap (λ (e : List ℕ). put e (at + length bs) cs) (put_sets d at bs (omega arith))
    ∙ put_sets (sets d at bs) (at + length bs) cs (rw (length-sets d at bs) h)
    ∙ sets_append d at bs cs
    ∙ sym (put_sets d at (bs ++ cs) (omega arith))

-- ---- for a function that writes by two calls

-- with room, a write that answered says where it ended
pub wrote_next : (d : List ℕ) (at : ℕ) (bs : List ℕ) (next : ℕ) (r : Result ℕ NoRoom) (e : List ℕ) → at + length bs ≤ length d → Wrote d at bs r e → r ≡ Ok next → next ≡ at + length bs
wrote_next d at bs next r e h w p =
    let q : r ≡ Ok (at + length bs) = w.said ∙ answer_room d at bs h in
    cc

pub wrote_never : (d : List ℕ) (at : ℕ) (bs : List ℕ) (r : Result ℕ NoRoom) (e : List ℕ) → at + length bs ≤ length d → Wrote d at bs r e → r ≡ no_room → ⊥
wrote_never d at bs r e h w p =
    let q : r ≡ Ok (at + length bs) = w.said ∙ answer_room d at bs h in
    apart cc

-- two writes, the second where the first ended, write both
pub wrote_then : (d : List ℕ) (at : ℕ) (bs cs : List ℕ) (next : ℕ) (r : Result ℕ NoRoom) (e : List ℕ) (r' : Result ℕ NoRoom) (e' : List ℕ)
    → at + length bs + length cs ≤ length d → Wrote d at bs r e → r ≡ Ok next → Wrote e next cs r' e' → Wrote d at (bs ++ cs) r' e'
wrote_then d at bs cs next r e r' e' h w p w' =
    let l : length (bs ++ cs) ≡ length bs + length cs = length-append bs cs in
    let n : next ≡ at + length bs = wrote_next d at bs next r e (omega arith) w p in
    let k : length e ≡ length d = ap length w.left ∙ put_length d at bs in
    record {
      said = w'.said ∙ answer_room e next cs (omega arith) ∙ ap Ok (omega arith) ∙ sym (answer_room d at (bs ++ cs) (omega arith));
      left = w'.left ∙ ap₂ (λ (x : List ℕ) (y : ℕ). put x y cs) w.left n ∙ put_put d at bs cs h;
    }

-- the same, where the second is known to start there
pub wrote_after : (d : List ℕ) (at : ℕ) (bs cs : List ℕ) (next : ℕ) (r : Result ℕ NoRoom) (e : List ℕ) (r' : Result ℕ NoRoom) (e' : List ℕ)
    → at + length bs + length cs ≤ length d → next ≡ at + length bs → Wrote d at bs r e → Wrote e next cs r' e' → Wrote d at (bs ++ cs) r' e'
wrote_after d at bs cs next r e r' e' h n w v = wrote_then d at bs cs next r e r' e' h w (w.said ∙ answer_room d at bs (omega arith) ∙ ap Ok (sym n)) v

-- a byte, and then others behind it
pub wrote_cons : (d : List ℕ) (at b : ℕ) (cs : List ℕ) (r : Result ℕ NoRoom) (e : List ℕ)
    → at + 1 + length cs ≤ length d → Wrote (set d at b) (at + 1) cs r e → Wrote d at (b ∷ cs) r e
wrote_cons d at b cs r e h w = wrote_then d at (b ∷ []) cs (at + 1) (Ok (at + 1)) (set d at b) r e h (wrote_sets d at (b ∷ []) (at + 1) (set d at b) (omega arith) refl refl) refl w

-- other words for the bytes
pub wrote_as : {d : List ℕ} {at : ℕ} {bs cs : List ℕ} {r : Result ℕ NoRoom} {e : List ℕ} → bs ≡ cs → Wrote d at bs r e → Wrote d at cs r e
wrote_as q w = rw q at w

-- ---- bytes that were put: they stand where they were put, and all else as it was

module _ (d : List ℕ) (at : ℕ) (bs : List ℕ) where
  pub put_front : at + length bs ≤ length d → take (at + length bs) (put d at bs) ≡ take at d ++ bs
  put_front h =
      let l = length-take-le at d (omega arith) in
      rw (put_room d at bs h) (take_at (take at d ++ bs) _ (at + length bs) (length-append (take at d) bs ∙ ap (λ (n : ℕ). n + length bs) l))

  pub put_before : take at (put d at bs) ≡ take at d
  put_before =
      split (length d) (at + length bs)
      (λ h. ap (take at) (put_full d at bs h))
      (λ h. rw (put_room d at bs h, append_assoc) (take_at (take at d) _ at (length-take-le at d (omega arith))))

  pub put_after : drop (at + length bs) (put d at bs) ≡ drop (at + length bs) d
  put_after =
      split (length d) (at + length bs)
      (λ h. ap (drop (at + length bs)) (put_full d at bs h))
      (λ h.
      let l = length-take-le at d (omega arith) in
      rw (put_room d at bs h) (drop_at (take at d ++ bs) _ (at + length bs) (length-append (take at d) bs ∙ ap (λ (n : ℕ). n + length bs) l)))

-- a list as it was before one place and from another on
pub record Kept (from to : ℕ) (d e : List ℕ) : Type 0 where
  pub long : length e ≡ length d
  pub before : take from e ≡ take from d
  pub after : drop to e ≡ drop to d

pub kept_same : (from to : ℕ) (d : List ℕ) → Kept from to d d
kept_same from to d = record { long = refl; before = refl; after = refl }

pub kept_put : (d : List ℕ) (at : ℕ) (bs : List ℕ) → Kept at (at + length bs) d (put d at bs)
kept_put d at bs = record { long = put_length d at bs; before = put_before d at bs; after = put_after d at bs }

-- behind a part
pub put_behind : (d : List ℕ) (at n : ℕ) (bs : List ℕ) → at + n + length bs ≤ length d → part (put d (at + n) bs) at (n + length bs) ≡ part d at n ++ bs
put_behind d at n bs h =
    part_front (put d (at + n) bs) at (n + length bs)
    ∙ ap (drop at) (rw (← add_assoc at n (length bs)) (put_front d (at + n) bs h))
    ∙ drop-append-le at (take (at + n) d) bs (omega (arith, length-take-le (at + n) d (omega arith)))
    ∙ ap (λ (s : List ℕ). s ++ bs) (sym (part_front d at n))

-- what stands already
pub put_same : (d : List ℕ) (at : ℕ) (bs : List ℕ) → at + length bs ≤ length d → part d at (length bs) ≡ bs → put d at bs ≡ d
unfolding part
put_same d at bs h e =
    let m = length bs in
    let f : bs ++ drop (at + m) d ≡ drop at d = ap₂ ◌++◌ (sym e) (sym (drop-drop m at d)) ∙ take-append-drop m (drop at d) in
    put_room d at bs h ∙ append_assoc (take at d) bs (drop (at + m) d) ∙ ap (λ (s : List ℕ). take at d ++ s) f ∙ take-append-drop at d

-- bytes behind others that stand already: all of them are written
pub wrote_behind : {d : List ℕ} {at : ℕ} (xs : List ℕ) {ys : List ℕ} {r : Result ℕ NoRoom} {e : List ℕ} → part d at (length xs) ≡ xs
    → Wrote d (at + length xs) ys r e → Wrote d at (xs ++ ys) r e
wrote_behind {d} {at} xs {ys} {r} {e} there w =
    let l = length-append xs ys in
    split (length d) (at + length (xs ++ ys))
    (λ k.
    record {
      said = w.said ∙ answer_full d (at + length xs) ys (omega arith) ∙ sym (answer_full d at (xs ++ ys) k);
      left = w.left ∙ put_full d (at + length xs) ys (omega arith) ∙ sym (put_full d at (xs ++ ys) k);
    })
    (λ k.
    record {
      said = w.said ∙ answer_room d (at + length xs) ys (omega arith) ∙ ap Ok (omega arith) ∙ sym (answer_room d at (xs ++ ys) k);
      left = w.left ∙ ap (λ (c : List ℕ). put c (at + length xs) ys) (sym (put_same d at xs (omega arith) there)) ∙ put_put d at xs ys (omega arith);
    })

pub put_nil : (d : List ℕ) (n : ℕ) → put d n [] ≡ d
put_nil d n = split (length d) n (λ h. put_full d n [] (omega arith)) (λ h. put_sets d n [] (omega arith))

-- ---- writes one after the other, with room for all of them

pub never_first : {d : List ℕ} {at : ℕ} {xs : List ℕ} {r : Result ℕ NoRoom} {e : List ℕ} (rest : List ℕ) → at + length (xs ++ rest) ≤ length d
    → Wrote d at xs r e → r ≡ no_room → ⊥
never_first {d} {at} {xs} {r} {e} rest h w = wrote_never d at xs r e (omega (arith, length-append xs rest)) w

pub never_second : {d : List ℕ} {at : ℕ} {xs : List ℕ} {r : Result ℕ NoRoom} {e : List ℕ} {n : ℕ} {ys : List ℕ} {r' : Result ℕ NoRoom} {e' : List ℕ} (rest : List ℕ)
    → at + length (xs ++ (ys ++ rest)) ≤ length d → Wrote d at xs r e → r ≡ Ok n → Wrote e n ys r' e' → r' ≡ no_room → ⊥
never_second {d} {at} {xs} {r} {e} {n} {ys} {r'} {e'} rest h w p w' =
    let l = length-append xs (ys ++ rest) in
    let m = length-append ys rest in
    wrote_never d at (xs ++ ys) r' e' (omega (arith, length-append xs ys)) (wrote_then d at xs ys n r e r' e' (omega arith) w p w')

pub wrote_three : {d : List ℕ} {at : ℕ} {xs : List ℕ} {r : Result ℕ NoRoom} {e : List ℕ} {n : ℕ} {ys : List ℕ} {r' : Result ℕ NoRoom} {e' : List ℕ} {n' : ℕ} {zs : List ℕ} {r'' : Result ℕ NoRoom} {e'' : List ℕ}
    → at + length (xs ++ (ys ++ zs)) ≤ length d → Wrote d at xs r e → r ≡ Ok n → Wrote e n ys r' e' → r' ≡ Ok n' → Wrote e' n' zs r'' e''
    → Wrote d at (xs ++ (ys ++ zs)) r'' e''
wrote_three {d} {at} {xs} {r} {e} {n} {ys} {r'} {e'} {n'} {zs} {r''} {e''} h w p w' p' w'' =
    let l = length-append xs (ys ++ zs) in
    let m = length-append ys zs in
    let k = length-append xs ys in
    rw append_assoc at (wrote_then d at (xs ++ ys) zs n' r' e' r'' e'' (omega arith) (wrote_then d at xs ys n r e r' e' (omega arith) w p w') p' w'')

-- ---- at the front

pub put_start : (d bs : List ℕ) (n : ℕ) → length bs ≡ n → n ≤ length d → take n (put d 0 bs) ≡ bs
put_start d bs n l h = rw (zero-add (length bs), l) at (put_front d 0 bs (omega arith))

module _ (n : ℕ) {d e : List ℕ} {r : Result ℕ NoRoom} (bs : List ℕ) (l : length d ≡ n) (k : length bs ≤ n) (w : Wrote d 0 bs r e) where
  front_room : 0 + length bs ≤ length d
  front_room = omega arith

  pub front_never : r ≡ no_room → ⊥
  front_never = wrote_never d 0 bs r e front_room w

  pub front_put : {m : ℕ} → r ≡ Ok m → (m ≤ n) × ((length e ≡ n) × (take m e ≡ bs))
  front_put {m} p =
      let q : m ≡ 0 + length bs = wrote_next d 0 bs m r e front_room w p in
      (omega (arith, front_room), (ap length w.left ∙ put_length d 0 bs ∙ l, rw (q, w.left) (put_front d 0 bs front_room)))
