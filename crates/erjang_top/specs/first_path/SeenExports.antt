-- The keys of a set of exports, as names and arities.
use Rattle.std.specs.Prelude.{◌≡◌, List, map}
use Rattle.beam_code.specs.declared.module.Module.{Module}
use Rattle.beam_code.specs.Keys as keys
use Rattle.beam_code.specs.Keys.{is_among}
use Rattle.erjang_top.specs.declared.first_path.emit.exports.Key.{Key}

abbrev pub seen_key : Key → keys.Key
seen_key key = (key.name.now, key.arity)

-- a key is among these where the module exports it
abbrev pub HasExports : List Key → Module → Type 0
HasExports exports m = (key : keys.Key) → is_among (map seen_key exports) key ≡ is_among m.exports key
