-- Bytes at the front of a run, the rest unchanged.
use Prim.Native.Nat.{ℕ, ◌+◌, ◌≤◌}
use mathlib.Core.Path.{◌≡◌, refl, sym, ap, ap₂, ◌∙◌}
use mathlib.Core.List.{List, [], ◌++◌, append_assoc}
use native.Mathlib.Omega.{arith}
use lib.ListN.{length, take, drop, length-append, length-drop, take-append-drop}
use lib.Seq.{take_at, drop_at, drop-drop}
use Rattle.codec.specs.Bytes.{part}
use Rattle.codec.specs.Put.{put}
use Rattle.codec.proofs.PutLaws.{put_room}
use Rattle.table.specs.Runs.{Runs, overlay, overlaid}

pub overlay_none : (r : List ℕ) → r ≡ overlay [] r
unfolding overlay
overlay_none r = refl

module _ (w e r : List ℕ) (o : e ≡ overlay w r) where
  pub overlay_front : take (length w) e ≡ w
  unfolding overlay
  overlay_front = rw o (take_at w (drop (length w) r) (length w) refl)

  pub overlay_back : drop (length w) e ≡ drop (length w) r
  unfolding overlay
  overlay_back = rw o (drop_at w (drop (length w) r) (length w) refl)

  pub overlay_behind : (n : ℕ) → drop (length w + n) e ≡ drop (length w + n) r
  overlay_behind n = sym (drop-drop n (length w) e) ∙ ap (drop n) overlay_back ∙ drop-drop n (length w) r

-- what stands at the front and what is behind it make an overlay
pub overlay_of : (w e r : List ℕ) → take (length w) e ≡ w → drop (length w) e ≡ drop (length w) r → e ≡ overlay w r
unfolding overlay
overlay_of w e r p q = sym (take-append-drop (length w) e) ∙ ap₂ ◌++◌ p q

pub overlay_long : (w e r : List ℕ) → e ≡ overlay w r → length w ≤ length r → length e ≡ length r
unfolding overlay
overlay_long w e r o h = ap length o ∙ simp (length-append, length-drop) (omega arith)

-- more bytes put behind
pub overlay_put : (w x e r : List ℕ) (n : ℕ) → n ≡ length w → e ≡ overlay w r → length (w ++ x) ≤ length r → put e n x ≡ overlay (w ++ x) r
unfolding overlay
overlay_put w x e r n m o h =
    let l = length-append w x in
    let k = overlay_long w e r o (omega arith) in
    ap (λ (j : ℕ). put e j x) m
    ∙ put_room e (length w) x (omega arith)
    ∙ ap₂ (λ (y z : List ℕ). y ++ x ++ z) (overlay_front w e r o) (overlay_behind w e r o (length x))
    ∙ ap (λ (j : ℕ). w ++ x ++ drop j r) (sym l)

-- the first bytes of what stands at the front
pub overlay_first : (w x e r : List ℕ) → e ≡ overlay (w ++ x) r → (take (length w) e ≡ w) × (part e (length w) (length x) ≡ x)
unfolding overlay part
overlay_first w x e r o =
    let y = x ++ drop (length (w ++ x)) r in
    let f : e ≡ w ++ y = o ∙ append_assoc w x (drop (length (w ++ x)) r) in (
      ap (take (length w)) f ∙ take_at w y (length w) refl,
      ap (λ (z : List ℕ). take (length x) (drop (length w) z)) f ∙ ap (take (length x)) (drop_at w y (length w) refl) ∙ take_at x (drop (length (w ++ x)) r) (length x) refl,
    )

-- of a run over itself
pub overlay_same : (w x r : List ℕ) → r ≡ overlay (w ++ x) r → r ≡ overlay w r
overlay_same w x r o = overlay_of w r r (overlay_first w x r r o).0 refl

-- a part behind others
pub overlay_at : (w x e r : List ℕ) → take (length w) e ≡ w → part e (length w) (length x) ≡ x → drop (length w + length x) e ≡ drop (length w + length x) r → e ≡ overlay (w ++ x) r
unfolding overlay part
overlay_at w x e r p q d =
    sym (take-append-drop (length w) e)
    ∙ ap₂ ◌++◌ p (sym (take-append-drop (length x) (drop (length w) e)) ∙ ap₂ ◌++◌ q (drop-drop (length x) (length w) e ∙ d))
    ∙ sym (append_assoc w x (drop (length w + length x) r))
    ∙ ap (λ (n : ℕ). w ++ x ++ drop n r) (sym (length-append w x))

-- ---- all seven runs

-- each by itself
pub record Each (d r r' : Runs) : Type 0 where
  pub out : r'.out ≡ overlay d.out r.out
  pub index : r'.index ≡ overlay d.index r.index
  pub filters : r'.filters ≡ overlay d.filters r.filters
  pub restarts : r'.restarts ≡ overlay d.restarts r.restarts
  pub index_restarts : r'.index_restarts ≡ overlay d.index_restarts r.index_restarts
  pub offsets : r'.offsets ≡ overlay d.offsets r.offsets
  pub hashes : r'.hashes ≡ overlay d.hashes r.hashes

module _ {d r r' : Runs} where
  pub each : r' ≡ overlaid d r → Each d r r'
  unfolding overlaid
  each e =
      record {
        out = ap (λ (x : Runs). x.out) e;
        index = ap (λ (x : Runs). x.index) e;
        filters = ap (λ (x : Runs). x.filters) e;
        restarts = ap (λ (x : Runs). x.restarts) e;
        index_restarts = ap (λ (x : Runs). x.index_restarts) e;
        offsets = ap (λ (x : Runs). x.offsets) e;
        hashes = ap (λ (x : Runs). x.hashes) e;
      }

  pub all_seven : Each d r r' → r' ≡ overlaid d r
  unfolding overlaid
  all_seven e = λ i.
      record {
        out = e.out i;
        index = e.index i;
        filters = e.filters i;
        restarts = e.restarts i;
        index_restarts = e.index_restarts i;
        offsets = e.offsets i;
        hashes = e.hashes i;
      }
