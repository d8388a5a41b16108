-- Open, judged: what is asked of the two ways in, and what they bring.
use Prim.Native.Nat.{ℕ}
use mathlib.Core.Path.{◌≡◌}
use native.Mathlib.Omega.{arith}
use Rattle.kinds.specs.declared.Answer.{Answer}
use Rattle.rules.specs.State.{Built, built}
use Rattle.rules.specs.Open.{sharing_of, purged, open_reader, open_writer}
use Rattle.rules.specs.Calls.{ask}
use Rattle.rules.specs.Calls as calls
use Rattle.rules.specs.Desk.{Desk, file_of}
use Rattle.rules.specs.Allocation.{Alloc}
use Rattle.memory.specs.Memories.{Memories}
use Rattle.memory.specs.Fine.{StandsFor}
use Rattle.midst.specs.Outcome.{Sound, Accepted, Done}
use Rattle.midst.proofs.Accepted.{accepted-open}
use Rattle.opening.specs.Opens.{Each, Reads, Writes}

module _ {m : Memories} (f access share multi : ℕ) where
  pub asks-reader : Sound m × Accepted f (calls.opens access share multi) m → Sound m × Each Reads f m
  asks-reader (k, a) = (k, λ d s S. let A = accepted-open d f access share multi (a d s S) in (A.file, A.b, A.stands, A.known.place))

  pub each-writer : (access ≡ 0 → ⊥) → Accepted f (calls.opens access share multi) m → Each (Writes access) f m
  each-writer h a d s S =
      let A = accepted-open d f access share multi (a d s S) in
      (A.file, A.b, A.stands, (A.known.place, A.known.room (omega (arith, h))))

  module _ (P : Sound m × Accepted f (calls.opens access share multi) m) (given : ℕ) (g : given ≡ sharing_of share) (m' : Memories) (r : Answer) where
    pub reader-brings : access ≡ 0
        → ((d : Desk) (s : Alloc) (b : Built) → StandsFor m d s → file_of d f ≡ built b → Done f d s (open_reader given b) m m' r)
        → (d : Desk) (s : Alloc) → StandsFor m d s → Done f d s (ask (file_of d f) (calls.opens access share multi)) m m' r
    reader-brings e h d s S =
        let A = accepted-open d f access share multi (P.1 d s S) in
        rw (A.known.reader e, ← g) (h d s A.b S A.stands)

    pub writer-brings : (access ≡ 0 → ⊥)
        → ((d : Desk) (s : Alloc) (b : Built) → StandsFor m d s → file_of d f ≡ built b → Done f d s (open_writer given (purged access b)) m m' r)
        → (d : Desk) (s : Alloc) → StandsFor m d s → Done f d s (ask (file_of d f) (calls.opens access share multi)) m m' r
    writer-brings e h d s S =
        let A = accepted-open d f access share multi (P.1 d s S) in
        rw (A.known.writer (omega (arith, e)), ← g) (h d s A.b S A.stands)
