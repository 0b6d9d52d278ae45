-- The rules' cases: those marked P as one table with one statement, the others computed likewise.
use Prim.Native.Nat.{ℕ}
use mathlib.Core.Path.{◌≡◌, refl}
use mathlib.Core.List.{List, [], ◌∷◌, ◌++◌, map}
use lib.ListN.{length, drop, replicate}
use Rattle.codec.specs.Bytes.{fours, bytes_of, common}
use Rattle.codec.specs.Varint.{varint_bytes_f, varint_bytes, handle_bytes}
use Rattle.checksum.specs.Checksum.{trailer, crc_bit, crc_bits, crc_byte, crc_over, crc_extend, crc_mask}
use Rattle.keys.specs.Order.{by_bytes, bytes_below, user_of, internal, raised_start, raised_last, shortest_sep, user_sep, last_tag, separator, short_succ}
use Rattle.blocks.specs.Block.{head_bytes, entry_bytes, sharing, since, packed, restarts_of, or_zero, tail_bytes, block_bytes, last_key_of}
use Rattle.blocks.specs.Formed.{bloom_name}
use Rattle.filters.specs.Filter.{hash_from, hash, probes, places, places_of, bit, raise, raise_all, raise_keys, filter_size, filter, hash_step}
use Rattle.filters.specs.FilterBlock.{Filtering, unfiltered, bits_per_key, no_filters, wait, make_filter, make_filters, filters_up_to, last_filter, filter_for, made_bytes, starts, filter_block_of, filter_block_bytes}
use Rattle.table.specs.Options.{Options, index_interval, Addition}
use Rattle.table.specs.Table.{magic}
use Rattle.table.specs.Build.{key_of, pair_of, framed, chunk_bytes, Chunk, written, end_of, index_pairs, filters_of, filter_bytes, meta_name, meta_pair, meta_bytes, index_bytes, until_meta, until_index, until_footer, meta_handle, index_handle, footer_bytes, table, Building, begin, last_key, close, close_before, add}

-- what the definitions give, and what the rules say
pub record Case : Type 0 where
  pub is : List ℕ
  pub should : List ℕ

-- a table of cases holds
abbrev pub Hold : List Case → Type 0
Hold cases = map (λ (c : Case). c.is) cases ≡ map (λ (c : Case). c.should) cases

-- ---- those marked P

pub cases : List Case
cases =
    -- separator: "abc" and "abc\0" give "abc"
    record { is = user_sep (97 ∷ 98 ∷ 99 ∷ []) (97 ∷ 98 ∷ 99 ∷ 0 ∷ []); should = 97 ∷ 98 ∷ 99 ∷ [] }
    -- "abcd" and "abd" give "abce"
    ∷ record { is = user_sep (97 ∷ 98 ∷ 99 ∷ 100 ∷ []) (97 ∷ 98 ∷ 100 ∷ []); should = 97 ∷ 98 ∷ 99 ∷ 101 ∷ [] }
    -- "abc" and "abd" give "abc\0"
    ∷ record { is = user_sep (97 ∷ 98 ∷ 99 ∷ []) (97 ∷ 98 ∷ 100 ∷ []); should = 97 ∷ 98 ∷ 99 ∷ 0 ∷ [] }
    -- "tea" and "tin" give "tf"
    ∷ record { is = user_sep (116 ∷ 101 ∷ 97 ∷ []) (116 ∷ 105 ∷ 110 ∷ []); should = 116 ∷ 102 ∷ [] }
    -- successor: "abc" gives "b"
    ∷ record { is = short_succ (97 ∷ 98 ∷ 99 ∷ []); should = 98 ∷ [] }
    ∷ record { is = short_succ (255 ∷ 255 ∷ []); should = 255 ∷ 255 ∷ 255 ∷ [] }
    ∷ record { is = short_succ []; should = 255 ∷ [] }
    -- k at 1, 10, 43 and 44 bits per key
    ∷ record { is = probes 1 ∷ probes 10 ∷ probes 43 ∷ probes 44 ∷ []; should = 1 ∷ 6 ∷ 29 ∷ 30 ∷ [] }
    -- the hash of the empty string
    ∷ record { is = hash [] ∷ []; should = 0xbc9f_1d34 ∷ [] }
    -- at 10 bits, 6 keys take 9 bytes, 7 take 10
    ∷ record { is = length (filter 10 (replicate 6 0)) ∷ length (filter 10 (replicate 7 0)) ∷ []; should = 9 ∷ 10 ∷ [] }
    ∷ []

pub cases_hold : Hold cases
unfolding cases by_bytes bytes_below raised_start raised_last shortest_sep user_sep short_succ hash_from hash probes places places_of bit raise raise_all raise_keys filter_size filter
cases_hold = refl

-- ---- the others

-- interval 16, a block size and a filter choice
abbrev options : ℕ → Filtering → Options
options size f = record { interval = 16; block_size = size; filtering = f }

-- a value under a word at an edition
abbrev value : List ℕ → ℕ → List ℕ → Addition
value w e v = record { word = w; edition = e; kind = 1; value = v }

-- "a" at 1 with "x", and "ab" at 1 with "y"
abbrev a : Addition
a = value (97 ∷ []) 1 (120 ∷ [])

abbrev ab : Addition
ab = value (97 ∷ 98 ∷ []) 1 (121 ∷ [])

-- both added, at a block size
abbrev both : ℕ → Building
both size = add (options size unfiltered) (add (options size unfiltered) begin a) ab

-- a data block of 21 bytes and so many more, alone
abbrev long : ℕ → Chunk
long n = record { additions = value (97 ∷ []) 1 (replicate n 0) ∷ []; key = [] }

-- how many filters it leaves, and how long it is
abbrev leaves : ℕ → List ℕ
leaves n =
    length (filters_of (options 4096 (bits_per_key 10)) 0 no_filters (long n ∷ [])).made
    ∷ length (chunk_bytes (options 4096 (bits_per_key 10)) (long n).additions)
    ∷ []

-- the footer of the empty table
abbrev foot : ℕ → Filtering → List ℕ
foot n f = drop n (table (options 4096 f) [])

pub others : List Case
others =
    -- the index key of "tea" at 9 before "tin": "tf" and the tag 01 ff ff ff ff ff ff ff
    record {
      is = separator (internal (116 ∷ 101 ∷ 97 ∷ []) 9 1) (internal (116 ∷ 105 ∷ 110 ∷ []) 3 1);
      should = 116 ∷ 102 ∷ 1 ∷ 255 ∷ 255 ∷ 255 ∷ 255 ∷ 255 ∷ 255 ∷ 255 ∷ [];
    }
    -- before "teb": "tea" at 9 whole
    ∷ record {
      is = separator (internal (116 ∷ 101 ∷ 97 ∷ []) 9 1) (internal (116 ∷ 101 ∷ 98 ∷ []) 3 1);
      should = 116 ∷ 101 ∷ 97 ∷ 1 ∷ 9 ∷ 0 ∷ 0 ∷ 0 ∷ 0 ∷ 0 ∷ 0 ∷ [];
    }
    -- interval 16: "a" at 1 with "x" gives a data block of 21 bytes; then "ab" at 1 with "y", which shares 1, gives 34
    ∷ record { is = length (chunk_bytes (options 21 unfiltered) (a ∷ [])) ∷ []; should = 21 ∷ [] }
    ∷ record { is = length (chunk_bytes (options 21 unfiltered) (a ∷ ab ∷ [])) ∷ []; should = 34 ∷ [] }
    -- the same block at block size 21, a new one at 20
    ∷ record { is = length (both 21).closed ∷ length (both 21).open_block ∷ []; should = 0 ∷ 2 ∷ [] }
    ∷ record { is = length (both 20).closed ∷ length (both 20).open_block ∷ []; should = 1 ∷ 1 ∷ [] }
    -- one block of 4,091 bytes at offset 0 leaves 2 filter offsets, of 4,090 leaves 1
    ∷ record { is = leaves 4070; should = 2 ∷ 4091 ∷ [] }
    ∷ record { is = leaves 4069; should = 1 ∷ 4090 ∷ [] }
    -- the empty table has 97 bytes without filter, and its footer is 0a 15 24 08, 36 zeros, magic
    ∷ record { is = length (table (options 4096 unfiltered) []) ∷ foot 49 unfiltered; should = 97 ∷ 0x0a ∷ 0x15 ∷ 0x24 ∷ 0x08 ∷ replicate 36 0 ++ magic }
    -- and 123 with filter: 0a 2f 3e 08
    ∷ record {
      is = length (table (options 4096 (bits_per_key 10)) []) ∷ foot 75 (bits_per_key 10);
      should = 123 ∷ 0x0a ∷ 0x2f ∷ 0x3e ∷ 0x08 ∷ replicate 36 0 ++ magic;
    }
    ∷ []

pub others_hold : Hold others
unfolding others by_bytes bytes_below user_of internal raised_start raised_last shortest_sep user_sep last_tag separator fours bytes_of common varint_bytes_f varint_bytes handle_bytes trailer crc_bit crc_bits crc_byte crc_over crc_extend crc_mask head_bytes entry_bytes sharing since packed restarts_of or_zero tail_bytes block_bytes last_key_of hash_step hash_from hash no_filters wait make_filter make_filters filters_up_to last_filter filter_for made_bytes starts filter_block_bytes filter_block_of index_interval magic bloom_name key_of pair_of framed chunk_bytes written end_of index_pairs filters_of filter_bytes meta_name meta_pair meta_bytes index_bytes until_meta until_index until_footer meta_handle index_handle footer_bytes table begin last_key close close_before add
others_hold = refl
