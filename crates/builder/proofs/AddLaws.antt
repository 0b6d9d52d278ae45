-- Add: what its steps come to.
use Prim.Native.Nat.{ℕ, zero, suc, ◌/◌, ◌≤◌}
use mathlib.Core.Path.{◌≡◌, refl, sym, ap, ◌∙◌}
use mathlib.Core.Logic.{◌⊎◌, inl, inr}
use mathlib.Core.List.{List, [], ◌∷◌, ◌++◌}
use mathlib.Core.Bool.{Bool, true, false, cond}
use native.Mathlib.Omega.{arith}
use lib.Dec.{leb}
use lib.ListN.{length, take}
use Rattle.codec.proofs.Prelude.{test, true_is}
use Rattle.table.specs.Checked.{pass, refuse, ◌>>=◌, ask}
use Rattle.table.specs.Options.{Options, Addition, addition_fits}
use Rattle.table.specs.Build.{Building, key_of, begin, close_before, add, finish, above, accept, accept_all}
use Rattle.table.proofs.CheckedLaws.{refuse_pass}
use Rattle.table.specs.Runs.{Runs, between, overlaid, FitsRoom, room_of}
use Rattle.table.proofs.AcceptLaws.{took, accept_more}
use Rattle.table.proofs.SufficeLaws.{runs_suffice_lem}
use Rattle.bloom.specs.Choice.{choice_of}
use Rattle.table_write.specs.Writes.{ClosedOut, ClosedIndex, MoreFilters, EnteredRuns}
use Rattle.std.specs.Prelude.{Ok, Err}
use Rattle.table_block.specs.declared.refusal.Refusal as Why
use Rattle.table_block.specs.declared.refusal.Refusal.TheVariants.{Order, Full}
use Rattle.table_block.specs.Refusals.{number, refusal}
use Rattle.table_block.proofs.RefusalLaws.{err_is, ok_not_err, err_not_ok}
use Rattle.builder.specs.declared.table_builder.Lengths.{Lengths}
use Rattle.builder.specs.declared.table_builder.Builder.{Builder}
use Rattle.builder.specs.declared.table_builder.Plan.{Plan}
use Rattle.builder.specs.State.{lengths_of, seven, sane, Stands}
use Rattle.builder.specs.Steps.{ends_at, Whole, Ready, early_of, mid_of, next_of, entered_state, decide_of, DecidedIs, open_after, cut_of, sep_of, unless}
use Rattle.builder.specs.Answers.{answer_of, Added, Later, Traced, AddedIs}
use Rattle.builder.proofs.CloseLaws.{Counted, ClosedRuns, closed_kept, more_until, ends_closed, index_key, index_key_closed, closed_all}
use Rattle.builder.proofs.DecideLaws.{early_sane, mid_is, mid_open}
use Rattle.builder.proofs.EnterLaws.{enter_fits, entered_all}
use Rattle.builder.proofs.TraceLaws.{refusal_of, lengths_of_lem, start_lengths, overlaid_itself, stands_counted, cut_close, no_cut_close, sep_short, mid_counted, roomy, addition_short, trace_began, trace_fits, trace_sane, trace_is_small, trace_next, trace_whole, trace_decides, next_short, next_lengths, mid_same}

-- ---- decided, and then written

-- an addition written into the runs, by way of a cut
pub record PutRuns (s : Builder) (key word value : List ℕ) (r r' : Runs) : Type 0 where
  pub mid : Runs
  pub cut : ClosedRuns (cut_of s) s (index_key (mid_of s key)) r mid
  pub entered : EnteredRuns (mid_of s key).pending (mid_of s key).written (mid_of s key).waiting key word value mid.out r'.out mid.restarts r'.restarts mid.hashes r'.hashes
  pub index : r'.index ≡ mid.index
  pub filters : r'.filters ≡ mid.filters
  pub index_restarts : r'.index_restarts ≡ mid.index_restarts
  pub offsets : r'.offsets ≡ mid.offsets

-- an addition within the limits, to a sane state, answers x and leaves the runs so
pub record PutIs (s : Builder) (l : Lengths) (key word value : List ℕ) (r r' : Runs) (x : Added) : Type 0 where
  pub number : ℕ
  pub kind : (number ≡ 0) ⊎ ((number ≡ 4) ⊎ (number ≡ 5))
  pub answer : x.answer ≡ unless number
  pub decided : Whole (next_of s key (length value)) → number ≡ decide_of s l key (length value)
  pub kept : (number ≡ 0 → ⊥) → (x.state ≡ s) × (r' ≡ r)
  pub state : number ≡ 0 → x.state ≡ next_of s key (length value)
  pub wrote : number ≡ 0 → PutRuns s key word value r r'

-- a cut ends where the open block does
cut_ends : (s : Builder) (key : List ℕ) {t : Bool} → t ≡ cut_of s → t ≡ true → (mid_of s key).written ≡ ends_at s
cut_ends s key e u = ap (λ (x : Builder). x.written) (sym (mid_is s key (sym u ∙ e))) ∙ ends_closed s (sep_of s key)

module _ (s : Builder) (l : Lengths) (key word value : List ℕ) (r : Runs) where
  pub put_refused : {e : Why.Refusal} {n : Builder} → DecidedIs s l key (length value) (Err e) n → PutIs s l key word value r r (record { answer = Err e; state = s })
  put_refused {e} {n} h =
      record {
        number = number e;
        kind = numbers (h.kind e refl);
        answer = says (h.kind e refl);
        decided = h.answer;
        kept = λ z. (refl, refl);
        state = λ z. absurd (none (h.kind e refl) z);
        wrote = λ z. absurd (none (h.kind e refl) z);
      }
    where
      numbers : (e ≡ Order) ⊎ (e ≡ Full) → (number e ≡ 0) ⊎ ((number e ≡ 4) ⊎ (number e ≡ 5))
      numbers (inl q) = inr (inl (ap number q))
      numbers (inr q) = inr (inr (ap number q))

      says : (e ≡ Order) ⊎ (e ≡ Full) → Err e ≡ unless (number e)
      says (inl q) = rw q
      says (inr q) = rw q

      none : (e ≡ Order) ⊎ (e ≡ Full) → number e ≡ 0 → ⊥
      none (inl q) z = let v = ap number q in absurd (omega arith)
      none (inr q) z = let v = ap number q in absurd (omega arith)

  pub put_done : {p : Plan} {n : Builder} → DecidedIs s l key (length value) (Ok p) n → {out₁ index₁ filters₁ index_restarts₁ offsets₁ out₂ restarts₂ hashes₂ : List ℕ}
      → ClosedOut p.cut s.pending s.written r.out out₁ r.restarts
      → ClosedIndex p.cut s.pending s.written s.indexed (take n.indexed.len n.indexed.last) r.index index₁ r.index_restarts index_restarts₁
      → MoreFilters p.cut (choice_of s.options.filter) (n.written / 2048) s.filtered s.made r.filters filters₁ r.offsets offsets₁ (take s.waiting r.hashes)
      → EnteredRuns (open_after p.cut s) n.written p.waiting key word value out₁ out₂ r.restarts restarts₂ r.hashes hashes₂
      → PutIs s l key word value r (seven out₂ index₁ filters₁ restarts₂ index_restarts₁ offsets₁ hashes₂) (record { answer = Ok tt; state = n })
  put_done {p} {n} h {out₁} {index₁} {filters₁} {index_restarts₁} {offsets₁} o i f e =
      let next = h.next p refl in
      let x : index_key n ≡ index_key (mid_of s key) = ap index_key next ∙ (unfold index_key next_of entered_state in refl) in
      let w : n.written ≡ (mid_of s key).written = ap (λ (d : Builder). d.written) next ∙ (unfold next_of entered_state in refl) in
      let c : ClosedRuns p.cut s (index_key n) r (seven out₁ index₁ filters₁ r.restarts index_restarts₁ offsets₁ r.hashes) =
      record { out = o; index = (unfold index_key in i); filters = more_until (λ u. w ∙ cut_ends s key (h.cut p refl) u) f; restarts = refl; hashes = refl } in
      record {
        number = 0;
        kind = inl refl;
        answer = refl;
        decided = h.answer;
        kept = λ z. absurd (z refl);
        state = λ q. next;
        wrote = λ q. record { mid = _; cut = rw (x, h.cut p refl) at c; entered = rw (mid_open s key (h.cut p refl), w, h.waiting p refl) at e; index = refl; filters = refl; index_restarts = refl; offsets = refl };
      }

-- ---- the trace

module _ (o : Options) (more : List Addition) (b : Building) (s : Builder) (r : Runs) (e : accept_all o (room_of (length r.out)) begin more ≡ pass b) (t : Stands o b s r)
    (a : Addition) (f : addition_fits a ≡ true) (c : Building) (q : accept o (room_of (length r.out)) b a ≡ pass c) (r₂ : Runs) (g : PutRuns s (key_of a) a.word a.value r r₂) where
  abbrev room : ℕ
  room = room_of (length r.out)

  abbrev h : Counted o b s
  h = stands_counted t

  added_is : add o b a ≡ c
  added_is = (took o room b a c q).is

  after_fits : FitsRoom room (between o (add o b a))
  after_fits =
      let z = trace_began o more b s r e t in
      rw added_is (runs_suffice_lem o room (more ++ (a ∷ [])) c (true_is z.fits) z.least (accept_more o room begin more a b c e q)).0

  abbrev m : Building
  m = close_before o (key_of a) b

  counted : Counted o m (mid_of s (key_of a))
  counted = mid_counted h (trace_is_small o more b s r e t) t.short.0 a

  mid_fits : FitsRoom room (between o m)
  mid_fits = enter_fits counted a (roomy h (trace_is_small o more b s r e t) t.short.0 a f) room (unfold add in after_fits)

  mid_runs : g.mid ≡ overlaid (between o m) r
  mid_runs =
      let small = trace_is_small o more b s r e t in
      let z = trace_began o more b s r e t in
      let sep = sep_of s (key_of a) in
      let k = sep_short h small t.short.0 a in
      test (cut_of s)
      (λ u.
      let w = cut_close h small t.short.0 a u in
      let i : index_key (mid_of s (key_of a)) ≡ sep = ap index_key (sym (mid_is s (key_of a) (sym u))) ∙ index_key_closed s sep k h.whole.indexed in
      rw w (closed_all h small sep k room r g.mid z.rooms (trace_fits o more b s r e t).0 (rw w at mid_fits) t.runs u (rw i at g.cut)))
      (λ u. rw (no_cut_close h small t.short.0 a u) (closed_kept g.cut u ∙ t.runs))

  add_runs : r₂ ≡ overlaid (between o (add o b a)) r
  unfolding add
  add_runs =
      entered_all counted a (roomy h (trace_is_small o more b s r e t) t.short.0 a f) room r g.mid (trace_began o more b s r e t).rooms after_fits mid_runs r₂ g.entered g.index g.filters g.index_restarts g.offsets

  pub after_runs : r₂ ≡ overlaid (between o c) r
  after_runs = rw added_is at add_runs

  pub after_stands : Stands o c (next_of s (key_of a) (length a.value)) r₂
  after_stands =
      let n = trace_next o more b s r e t a f in
      let l = lengths_of_lem (between o (add o b a)) r r₂ add_runs room (trace_began o more b s r e t).rooms after_fits in
      rw (← added_is) (record {
        options = n.options;
        counts = n.counts;
        interval = n.interval;
        index_interval = n.index_interval;
        whole = (n.whole.pending, n.whole.indexed);
        short = next_short o more b s r e t a f;
        lengths = next_lengths o more b s r e t a f ∙ sym l;
        going = (unfold next_of entered_state in (mid_same o more b s r e t a f).1 ∙ t.going);
        started = start_lengths o r r₂ l ∙ t.started;
        runs = overlaid_itself (between o (add o b a)) r r₂ add_runs;
      })

-- ---- all of it

pub early_zero : (s : Builder) (l : Lengths) (t : Bool) → early_of s l t ≡ 0 → (sane s l ≡ true) × (t ≡ true)
unfolding early_of
early_zero s l t e = go s.finished (sane s l) t e
  where
    go : (x y z : Bool) → ◌≡◌ {A = ℕ} (cond x 6 (cond y (cond z 0 3) 2)) 0 → (y ≡ true) × (z ≡ true)
    go true y z e = absurd (omega arith)
    go false true true e = (refl, refl)
    go false true false e = absurd (omega arith)
    go false false z e = absurd (omega arith)

accept_short : (o : Options) (room : ℕ) (b : Building) (a : Addition) → addition_fits a ≡ false → accept o room b a ≡ refuse 3
unfolding accept ask ◌>>=◌
accept_short o room b a f = rw f

accept_number : (o : Options) (room : ℕ) (b : Building) (a : Addition) → addition_fits a ≡ true → unless (refusal_of (accept o room b a)) ≡ answer_of (accept o room b a)
unfolding accept ask ◌>>=◌ refusal_of answer_of
accept_number o room b a f =
    test (above a b.open_block)
    (λ u. test (leb (length (finish o (add o b a))) room) (λ v. rw (f, u, v)) (λ v. rw (f, u, v)))
    (λ u. rw (f, u))

pub unless_err : (n : ℕ) {e : Why.Refusal} → unless n ≡ Err e → (n ≡ 0 → ⊥) × (e ≡ refusal n)
unless_err zero q = ok_not_err q
unless_err (suc n) q = (λ z. absurd (omega arith), sym (err_is q))

pub unless_ok : (n : ℕ) {u : Unit {0}} → unless n ≡ Ok u → n ≡ 0
unless_ok zero q = refl
unless_ok (suc n) q = err_not_ok q

module _ (s : Builder) (r : Runs) (a : Addition) where
  pub add_refused : {t : Bool} {e : Why.Refusal} → t ≡ addition_fits a → unless (early_of s (lengths_of r) t) ≡ Err e → AddedIs s r r a (record { answer = Err e; state = s })
  add_refused {t} {e} p q =
      let u = unless_err (early_of s (lengths_of r) t) q in
      let w : early_of s (lengths_of r) t ≡ early_of s (lengths_of r) (addition_fits a) = ap (early_of s (lengths_of r)) p in
      record {
        early = λ x. ap Err (u.1 ∙ ap refusal w);
        later = λ x. absurd (u.0 (w ∙ x));
        refused = λ m x. (refl, refl);
        traced = λ o more b ac st.
            test (addition_fits a)
            (λ f. absurd (u.0 (w ∙ early_sane s (lengths_of r) (addition_fits a) st.going (trace_sane o more b s r ac st) ∙ rw f)))
            (λ f.
            let x = accept_short o (room_of (length r.out)) b a f in
            let y : early_of s (lengths_of r) t ≡ 3 = w ∙ early_sane s (lengths_of r) (addition_fits a) st.going (trace_sane o more b s r ac st) ∙ rw f in
            record {
              answer = ap Err (u.1 ∙ ap refusal y) ∙ sym (ap answer_of x ∙ (unfold answer_of in refl));
              stands = λ c k. absurd (refuse_pass (sym x ∙ k));
              runs = λ c k. absurd (refuse_pass (sym x ∙ k));
            });
      }

  module _ {t : Bool} (p : t ≡ addition_fits a) (z : early_of s (lengths_of r) t ≡ 0) where
    pub add_ready : (sane s (lengths_of r) ≡ true) × (addition_fits a ≡ true)
    add_ready = let w = early_zero s (lengths_of r) t z in (w.0, sym p ∙ w.1)

    module _ {r' : Runs} {x : Added} (g : PutIs s (lengths_of r) (key_of a) a.word a.value r r' x) where
      no_refusal : g.number ≡ 0 → x.answer ≡ Ok tt
      no_refusal e = g.answer ∙ rw e

      later_is : Later x.answer
      later_is = go g.kind
        where
          go : (g.number ≡ 0) ⊎ ((g.number ≡ 4) ⊎ (g.number ≡ 5)) → Later x.answer
          go (inl e) = rw (no_refusal e) tt
          go (inr (inl e)) = rw (g.answer ∙ ap unless e) (inl refl)
          go (inr (inr e)) = rw (g.answer ∙ ap unless e) (inr refl)

      module _ (o : Options) (more : List Addition) (b : Building) (e : accept_all o (room_of (length r.out)) begin more ≡ pass b) (st : Stands o b s r) where
        number_is : g.number ≡ refusal_of (accept o (room_of (length r.out)) b a)
        number_is = g.decided (trace_whole o more b s r e st a add_ready.1) ∙ trace_decides o more b s r e st a add_ready.1

        number_zero : (c : Building) → accept o (room_of (length r.out)) b a ≡ pass c → g.number ≡ 0
        unfolding refusal_of
        number_zero c k = number_is ∙ rw k

        traced_is : Traced o b r r' a x
        traced_is =
            record {
              answer = g.answer ∙ ap unless number_is ∙ accept_number o (room_of (length r.out)) b a add_ready.1;
              stands = λ c k. rw (g.state (number_zero c k)) (after_stands o more b s r e st a add_ready.1 c k r' (g.wrote (number_zero c k)));
              runs = λ c k. after_runs o more b s r e st a add_ready.1 c k r' (g.wrote (number_zero c k));
            }

      pub add_put : AddedIs s r r' a x
      add_put =
          record {
            early = λ y. absurd (y (ap (early_of s (lengths_of r)) (sym p) ∙ z));
            later = λ y. later_is;
            refused = λ m y. g.kept (λ k. ok_not_err (sym (no_refusal k) ∙ y));
            traced = traced_is;
          }

pub add_is_ready : (s : Builder) (r : Runs) (a : Addition) → (sane s (lengths_of r) ≡ true) × (addition_fits a ≡ true) → {n : ℕ} → n ≤ 1032 → Ready s (lengths_of r) n (length a.value)
add_is_ready s r a f h = record { sound = f.0; key = h; value = (addition_short a f.1).1 }
