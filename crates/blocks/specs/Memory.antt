-- A file's share in the blocks memory.
use Rattle.std.specs.Prelude.{ℕ, ◌*◌}
use Rattle.rules.specs.Limits.{files, share_bytes}

-- "blocks (eight shares of 4,096 bytes)"
abbrev pub blocks_bytes : ℕ
blocks_bytes = share_bytes * files
