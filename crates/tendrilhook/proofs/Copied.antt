-- What look shows, copied into the record memory of a host.
use Prim.Native.Nat.{ℕ}
use mathlib.Core.Path.{◌≡◌}
use mathlib.Core.List.{List}
use mathlib.Core.Option.{Option}
use lib.ListN.{length}
use lib.Seq.{sets}
use Rattle.rules.specs.Limits.{record_room}
use Rattle.rules.specs.Desk.{look, reply_bytes}
use Rattle.midst.specs.Outcome.{reply_status}
use Rattle.promises.specs.Promise.{written, Standing, Seen, reply_of, shown, Promise}
use Rattle.promises.specs.Promise as host
use Rattle.promises.proofs.Events.{room-right, room-wrong}
use Rattle.promises.proofs.Still.{look-behind}
use Rattle.memory.specs.Memories.{Memories}

module _ (m : Memories) (f p : ℕ) (memory : List ℕ) where
  -- 29: the record memory has another length
  pub other_length : (length memory ≡ record_room → ⊥) → Promise m (host.look f p memory) (written 29 0 memory) m
  unfolding Promise reply_of shown reply_status reply_bytes
  other_length h v k = (rw (room-wrong record_room memory v h), look-behind m v k record_room f p memory)

  pub copied : length memory ≡ record_room → (part : List ℕ) → ((v : Option Standing) → Seen m v → part ≡ reply_bytes (reply_of v (look f p)))
      → (memory' : List ℕ) → memory' ≡ sets memory 0 part → (status : ℕ)
      → ((v : Option Standing) → Seen m v → status ≡ reply_status (reply_of v (look f p)))
      → Promise m (host.look f p memory) (written status (length part) memory') m
  unfolding Promise shown
  copied h part e memory' w status i v k = (rw (room-right record_room memory v h, w, e v k, i v k), look-behind m v k record_room f p memory)
