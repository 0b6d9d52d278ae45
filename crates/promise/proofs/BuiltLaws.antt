-- A table that calls built stands for the additions that were accepted; finished, it passes and reads as they do.
use Prim.Native.Nat.{ℕ}
use mathlib.Core.Path.{◌≡◌, refl, sym, ◌∙◌, ap, subst}
use mathlib.Core.List.{List, [], ◌∷◌, ◌++◌}
use native.Mathlib.Omega.{arith}
use lib.ListN.{length, take}
use Rattle.codec.proofs.Prelude.{true_is}
use Rattle.table.specs.Checked.{Checked, pass, refuse}
use Rattle.table.specs.Options.{Options, Addition}
use Rattle.table.specs.Build.{Building, begin, accept, accept_all, finish}
use Rattle.table.specs.Runs.{Runs, room_of, start_of, held, between, finished, overlay, FitsRoom}
use Rattle.table.proofs.SufficeLaws.{runs_suffice_lem, Began, began}
use Rattle.table.proofs.AcceptLaws.{accept_last, accept_more, round_trip_lem}
use Rattle.table.proofs.OverlayLaws.{overlay_front, overlay_long, each}
use Rattle.std.specs.Prelude.{Ok}
use Rattle.table_block.proofs.RefusalLaws.{ok_is, err_not_ok, ok_not_err}
use Rattle.builder.specs.declared.table_builder.Options as Given
use Rattle.builder.specs.declared.table_builder.Builder.{Builder}
use Rattle.builder.specs.State.{options_of, Stands}
use Rattle.builder.specs.Answers.{answer_of, started, Traced, Added, StartedIs, AddedIs}
use Rattle.promise.specs.Demand.{Calls, add_answers, finish_answers, finished_reads}

passed_of : {A C : Type 0} (m : Checked A) → answer_of m ≡ Ok tt → ((a : A) → m ≡ pass a → C) → C
unfolding answer_of
passed_of (pass a) e f = f a refl
passed_of (refuse n) e f = err_not_ok e

-- the building that some calls stand for
record Stood (o : Options) (xs : List Addition) (s : Builder) (r : Runs) : Type 0 where
  last : Building
  accepts : accept_all o (room_of (length r.out)) begin xs ≡ pass last
  stands : Stands o last s r

module _ {o : Options} {xs : List Addition} {s : Builder} {r : Runs} (h : Stood o xs s r) where
  start_is : Began o r
  start_is = began o r h.stands.started

  fits : FitsRoom (room_of (length r.out)) (between o h.last) × FitsRoom (room_of (length r.out)) (finished o h.last)
  fits = runs_suffice_lem o (room_of (length r.out)) xs h.last (true_is start_is.fits) start_is.least h.accepts

stood_add : {o : Options} {xs : List Addition} {s : Builder} {r r' : Runs} {a : Addition} {x : Added} → Stood o xs s r → AddedIs s r r' a x → x.answer ≡ Ok tt → Stood o (xs ++ (a ∷ [])) x.state r'
stood_add {o} {xs} {s} {r} {r'} {a} {x} h d e =
    let t : Traced o h.last r r' a x = d.traced o xs h.last h.accepts h.stands in
    passed_of (accept o (room_of (length r.out)) h.last a) (sym t.answer ∙ e) λ c q.
    let room = room_of (length r.out) in
    let more : accept_all o room begin (xs ++ (a ∷ [])) ≡ pass c = accept_more o room begin xs a h.last c h.accepts q in
    let f : FitsRoom room (between o c) = (runs_suffice_lem o room (xs ++ (a ∷ [])) c (true_is (start_is h).fits) (start_is h).least more).0 in
    let n : length r'.out ≡ length r.out = overlay_long (between o c).out r'.out r.out (each (t.runs c q)).out (omega (arith, f.out, (start_is h).rooms.out)) in
    record { last = c; accepts = ap (λ (m : ℕ). accept_all o (room_of m) begin (xs ++ (a ∷ []))) n ∙ more; stands = t.stands c q }

stood_start : {o : Given.Options} {r r' : Runs} {s : Builder} → StartedIs o r r' (Ok s) → (m : Checked (Unit {0})) → start_of (options_of o) r ≡ m → Stood (options_of o) [] s r'
unfolding started
stood_start {o} {r} {r'} {s} i (pass u) q =
    let e : s ≡ _ = ok_is (i.said ∙ ap (started o r) q) in
    record { last = begin; accepts = unfold accept_all in refl; stands = rw e (i.stands q) }
stood_start {o} {r} i (refuse n) q = ok_not_err (i.said ∙ ap (started o r) q)

stood : {o : Given.Options} {xs : List Addition} {s : Builder} {r : Runs} → Calls o xs s r → Stood (options_of o) xs s r
stood {o} (Calls.start {r = r} {r' = r'} {s = s} i) = stood_start i (start_of (options_of o) r) refl
stood (Calls.accept c d e) = stood_add (stood c) d e
stood {o} (Calls.refuse {xs = xs} {s = s} {r' = r'} {e = n} c d e) =
    let h = stood c in
    let k = d.refused n e in
    subst (λ (z : Builder). Stood (options_of o) xs z r') (sym k.0) (subst (λ (q : Runs). Stood (options_of o) xs s q) (sym k.1) h)

pub add_answers_lem : add_answers
add_answers_lem o xs s r r' a x c d =
    let h = stood c in
    let t = d.traced (options_of o) xs h.last h.accepts h.stands in
    t.answer ∙ ap answer_of (sym (accept_last (options_of o) (room_of (length r.out)) begin xs a h.last h.accepts))

pub finish_answers_lem : finish_answers
finish_answers_lem o xs s r r' x c f =
    let h = stood c in
    (length (finish (options_of o) h.last), f.answer (options_of o) xs h.last h.accepts h.stands)

pub finished_reads_lem : finished_reads
finished_reads_lem o xs t w =
    let h = stood w.calls in
    let b = h.last in
    let q = options_of o in
    let n : w.size ≡ length (finish q b) = (ok_is (sym w.answer ∙ w.is.answer q xs b h.accepts h.stands)) in
    let out : w.left.out ≡ overlay (finish q b) w.runs.out = unfold finished held in (each (w.is.runs q xs b h.accepts h.stands)).out in
    let t_is : finish q b ≡ t = sym (w.table ∙ ap (λ (m : ℕ). take m w.left.out) n ∙ overlay_front (finish q b) w.left.out w.runs.out out) in
    round_trip_lem q (room_of (length w.runs.out)) xs t
    (record { fits = true_is (start_is h).fits; limited = (start_is h).rooms.limit; last = b; accepts = h.accepts; finishes = t_is })
