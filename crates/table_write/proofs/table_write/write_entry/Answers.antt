-- `table_write::table_write::write_entry` meets its contract.
use mathlib.Core.Path.{ap, ◌∙◌}
use mathlib.Core.List.{[], ◌∷◌}
use Prim.Native.Nat.{ℕ}
use Rattle.codec.specs.Put.{put}
use Rattle.table_write.proofs.table_write.write_entry.Goals as goal

pub returns : goal.returns
returns c = let a = c.args in
    record {
      added = c.add.result;
      after = c.add.new.self;
      entry = c.add.ensures;
      hash = c.push_hash.ensures ∙ ap (λ (x : ℕ). put a.hashes.now a.waiting (x ∷ [])) c.bloom_hash.ensures;
    }
