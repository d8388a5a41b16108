-- What is found for a reader is what each desk shows that the memories stand for.
use Prim.Native.Nat.{ℕ, ◌*◌, ◌≤◌, ◌<◌}
use mathlib.Core.Path.{◌≡◌, refl, sym, ap, ◌∙◌, subst}
use mathlib.Core.Bool.{Bool, false, false≢true}
use mathlib.Core.List.{List}
use native.Mathlib.Omega.{arith}
use borrow.Author.Tests.{eq-eqb, ne_eqb}
use lib.ListN.{length}
use Rattle.rules.specs.Limits.{entries, buffer_bytes}
use Rattle.rules.specs.State.{Brought, Req, idle, reading, writing, read_done, write_done, Built}
use Rattle.rules.specs.Reply.{leaves}
use Rattle.rules.specs.Look.{look_file, look_req}
use Rattle.rules.specs.Desk.{Desk}
use Rattle.rules.specs.Allocation.{Alloc, place_of}
use Rattle.laws.specs.Outstanding.{uncollected}
use Rattle.laws.specs.Sides.{Fitting}
use Rattle.laws.specs.Bounds.{Bounded}
use Rattle.laws.proofs.Bounds.{bounds-at}
use Rattle.laws.proofs.Happenings.{place-of-desk}
use Rattle.segment.specs.declared.Entry.{Entry}
use Rattle.segment.specs.Layout.{reply_port}
use Rattle.segment.specs.Table.{nth}
use Rattle.segment.specs.Fields.{entry_words, entry_of, entry_at}
use Rattle.memory.specs.Memories.{memories}
use Rattle.memory.specs.Image.{req_words}
use Rattle.memory.specs.Fine.{StandsFor}
use Rattle.midst.specs.Outcome.{reply_status, SoundBlocks}
use Rattle.kinds.specs.declared.Outstanding.{Outstanding}
use Rattle.kinds.specs.declared.Outstanding.TheVariants.{Completed}
use Rattle.accessors.specs.declared.Accessor.{Accessor}
use Rattle.kinds.specs.declared.refusals.Refusal.{Refusal}
use Rattle.kinds.specs.declared.refusals.Refusal.TheVariants as refusal
use Rattle.std.specs.Prelude.{Result, Ok, Err}
use Rattle.kinds.specs.Refusals.{number}
use Rattle.accessors.specs.Outstanding.{outstanding_of}
use Rattle.accessors.specs.Accessors.{Open, accessor_at, accessor_of}
use Rattle.accessors.proofs.Names.{accessor-is}
use Rattle.accessors.proofs.Waits.{fine-at}
use Rattle.transfers.proofs.Named.{Named}
use Rattle.transfers.proofs.Fits.{Fit, fit}
use Rattle.transfers.proofs.Ports.{port-full, port-entry}
use Rattle.midst.specs.FileStands.{FileStands}
use Rattle.promises.specs.Parts.{of_buffers, of_file, of_req}
use Rattle.looking.specs.declared.finding.Shown.{Shown}
use Rattle.looking.specs.declared.finding.Shown.TheVariants as shown
use Rattle.looking.specs.Shown.{part_shown, status_shown, Inside, OfFile, OfReader, Finds, Opens}
use Rattle.looking.proofs.Looked.{Refuses, Reads, Looked, refused, writer, reader, looked}

-- the same accessor has the same side and request
same-accessor : {v w m n : ℕ} {o q : Outstanding} → Open v m o ≡ Open w n q → (m ≡ n) × (o ≡ q)
same-accessor {v} {w} {m} {n} {o} {q} e =
    let r : ◌≡◌ {A = Accessor} (record { words = v; side = m; request = o }) (record { words = w; side = n; request = q }) = cc in
    (ap (λ (a : Accessor). a.side) r, ap (λ (a : Accessor). a.request) r)

-- the accessor is known

module _ (d : Desk) (f p : ℕ) where
  as-refused : (x : Result Accessor Refusal) (r : Refusal) → x ≡ Err r → Looked d f p x → Refuses d f p (number r)
  as-refused x r e (refused m R) = let z : m ≡ r = cc in rw (← z) R
  as-refused x r e (writer w q R) = absurd (false≢true cc)
  as-refused x r e (reader w q R) = absurd (false≢true cc)

  as-writer : (x : Result Accessor Refusal) (w side : ℕ) (q : Outstanding) → x ≡ Open w side q → side ≡ 2 → Looked d f p x → Refuses d f p 34
  as-writer x w side q e k (refused m R) = absurd (false≢true cc)
  as-writer x w side q e k (writer v o R) = R
  as-writer x w side q e k (reader v o R) = let z : 1 ≡ side = (same-accessor e).0 in absurd (omega arith)

  as-reader : (x : Result Accessor Refusal) (w side : ℕ) (q : Outstanding) → x ≡ Open w side q → (side ≡ 2 → ⊥) → Looked d f p x → Reads d f p q
  as-reader x w side q e k (refused m R) = absurd (false≢true cc)
  as-reader x w side q e k (writer v o R) = absurd (k (sym (same-accessor e).0))
  as-reader x w side q e k (reader v o R) = let z : o ≡ q = (same-accessor e).1 in rw (← z) R

  refuses-tells : (r : Refusal) → Refuses d f p (number r) → OfReader f p d (Err r)
  unfolding part_shown status_shown reply_status
  refuses-tells r R = record { shows = sym R.part; status = rw R.reply }

-- refused
module _ (xs blocks : List ℕ) (f p : ℕ) where
  pub refused-finds : (r : Refusal) → Err r ≡ accessor_at xs f p → Finds (OfReader f p) xs blocks (Err r)
  unfolding Inside
  refused-finds r e = record {
    inside = tt;
    tells = λ buffers d s S. refuses-tells d f p r (as-refused d f p (accessor_of d f p) r (sym (e ∙ accessor-is S f p)) (looked d f p));
  }

  pub opens : (a : Accessor) → Ok a ≡ accessor_at xs f p → SoundBlocks xs blocks → Opens xs blocks f p a.side a.request
  opens a e S = record { stood = S; words = a.words; named = sym e }

-- an open accessor
module _ {xs blocks : List ℕ} {f p side : ℕ} {q : Outstanding} (O : Opens xs blocks f p side q) where
  pub writer-finds : side ≡ 2 → Finds (OfReader f p) xs blocks (Err refusal.Side)
  unfolding Inside
  writer-finds e = record {
    inside = tt;
    tells = λ buffers d s S. refuses-tells d f p refusal.Side (as-writer d f p (accessor_of d f p) O.words side q (sym (accessor-is S f p) ∙ O.named) e (looked d f p));
  }

  module _ (n : side ≡ 2 → ⊥) where
    pub reads : {buffers : List ℕ} {d : Desk} {s : Alloc} → StandsFor (memories xs blocks buffers) d s → Reads d f p q
    reads {buffers} {d} {s} S = as-reader d f p (accessor_of d f p) O.words side q (sym (accessor-is S f p) ∙ O.named) n (looked d f p)

    pub reader-file : FileStands xs blocks f
    reader-file =
        let S = O.stood.1.2 in
        let R = reads S in
        record { file = R.named.file; buffers = _; d = _; s = _; b = R.named.b; stands = S; is = R.named.stands }

    pub reader-fit : Fit (memories xs blocks O.stood.0) f p
    reader-fit = let S = O.stood.1.2 in fit S (reads S).named

    -- whose read brought no record: that of the file is shown
    file-finds : (x : Result Shown Refusal) → ((buffers : List ℕ) (d : Desk) (s : Alloc) (S : StandsFor (memories xs blocks buffers) d s)
        → (of_req f p (reads S).named.a.req (reads S).named.b ≡ of_file f (reads S).named.b) × (look_req (reads S).named.a.req (reads S).named.b ≡ look_file (reads S).named.b))
        → Finds (OfFile f) xs blocks x → Finds (OfReader f p) xs blocks x
    file-finds x same F = record {
      inside = F.inside;
      tells = λ buffers d s S.
          let R = reads S in
          let t = F.tells buffers d s S R.named.b R.named.stands in
          let e = same buffers d s S in
          record { shows = t.shows ∙ sym (R.part ∙ e.0); status = t.status ∙ sym (ap reply_status R.reply ∙ ap (λ o. reply_status o.reply) e.1) };
    }

-- that of a request which is not completed
not_done : (f p : ℕ) (b : Built) (q : Req) → (outstanding_of q ≡ Completed → ⊥) → (of_req f p q b ≡ of_file f b) × (look_req q b ≡ look_file b)
unfolding outstanding_of of_req look_req
not_done f p b idle h = (refl, refl)
not_done f p b (reading q) h = (refl, refl)
not_done f p b (writing q) h = (refl, refl)
not_done f p b (read_done q) h = absurd (h refl)
not_done f p b (write_done q) h = absurd (h refl)

pub waiting-finds : {xs blocks : List ℕ} {f p side : ℕ} {q : Outstanding} → Opens xs blocks f p side q → (side ≡ 2 → ⊥) → (q ≡ Completed → ⊥) → (x : Result Shown Refusal)
    → Finds (OfFile f) xs blocks x → Finds (OfReader f p) xs blocks x
waiting-finds {f = f} {p = p} O n h x F =
    file-finds O n x (λ buffers d s S. let R = reads O n S in not_done f p R.named.b R.named.a.req (λ e. h (sym R.request ∙ e))) F

-- a completed one of a reader is a read's
done-read : (q : Req) → Fitting false q → outstanding_of q ≡ Completed → (x : Brought) × (q ≡ read_done x)
unfolding Fitting outstanding_of
done-read idle F e = absurd (false≢true cc)
done-read (reading q) F e = absurd (false≢true cc)
done-read (writing q) F e = absurd (false≢true F)
done-read (read_done q) F e = (q, refl)
done-read (write_done q) F e = absurd (false≢true F)

module _ {xs blocks : List ℕ} {f p side : ℕ} (O : Opens xs blocks f p side Completed) (n : side ≡ 2 → ⊥) where
  module _ {buffers : List ℕ} {d : Desk} {s : Alloc} (S : StandsFor (memories xs blocks buffers) d s) where
    abbrev R : Reads d f p Completed
    R = reads O n S

    abbrev N : Named d f p
    N = R.named

    done : (x : Brought) × (N.a.req ≡ read_done x)
    done = done-read N.a.req (subst (λ (w : Bool). Fitting w N.a.req) R.side ((fine-at S f N.file N.b N.stands).sides p N.a N.at).request) R.request

    ended : uncollected N.a.req ≡ 1
    unfolding uncollected
    ended = ap uncollected done.1

    size_low : length done.0.bytes ≤ buffer_bytes
    unfolding Bounded
    size_low = (bounds-at p N.a (read_done done.0) N.b N.at done.1 (fine-at S f N.file N.b N.stands).bounds).0

  -- the entry at its reply port
  pub port-low : (e : ℕ) → e ≡ nth xs (reply_port (place_of f p)) → e < entries
  port-low e port =
      let S = O.stood.1.2 in
      rw port (port-full S (N S) (ended S))

  module _ (e : ℕ) (port : e ≡ nth xs (reply_port (place_of f p))) (m : Entry) (entry : m ≡ entry_at xs e) where
    entry-is : {buffers : List ℕ} {d : Desk} {s : Alloc} (S : StandsFor (memories xs blocks buffers) d s) → (m.status ≡ (done S).0.status) × (m.size ≡ length (done S).0.bytes)
    unfolding entry_of req_words entry_words
    entry-is S =
        let k : m ≡ entry_of (req_words (place_of f p) (read_done (done S).0)) =
        entry ∙ (ap (entry_at xs) port ∙ (port-entry S (N S) (ended S) ∙ ap (λ (q : Req). entry_of (req_words (place_of f p) q)) (done S).1)) in
        (ap (λ (t : Entry). t.status) k, ap (λ (t : Entry). t.size) k)

    -- the read brought a status alone
    pub ended-finds : (m.status ≡ 0 → ⊥) → (x : Result Shown Refusal) → Finds (OfFile f) xs blocks x → Finds (OfReader f p) xs blocks x
    unfolding of_req look_req
    ended-finds h x F = file-finds O n x (λ buffers d s S. same S) F
      where
        same : {buffers : List ℕ} {d : Desk} {s : Alloc} (S : StandsFor (memories xs blocks buffers) d s)
            → (of_req f p (N S).a.req (N S).b ≡ of_file f (N S).b) × (look_req (N S).a.req (N S).b ≡ look_file (N S).b)
        same S = let z = ne_eqb (done S).0.status 0 (λ k. h ((entry-is S).0 ∙ k)) in (rw ((done S).1, of_req, z), rw ((done S).1, look_req, z))

    -- a completed read that brought a record shows it
    pub brought-finds : m.status ≡ 0 → Finds (OfReader f p) xs blocks (Ok (shown.Buffer (buffer_bytes * place_of f p) m.size))
    unfolding Inside part_shown status_shown of_req look_req leaves reply_status
    brought-finds h = record {
      inside = let S = O.stood.1.2 in omega (arith, (entry-is S).1, size_low S, place-of-desk f p (reader-fit O n).file (reader-fit O n).place);
      tells = λ buffers d s S. tells S;
    }
      where
        tells : {buffers : List ℕ} {d : Desk} {s : Alloc} (S : StandsFor (memories xs blocks buffers) d s) → OfReader f p d (Ok (shown.Buffer (buffer_bytes * place_of f p) m.size))
        tells S =
            let r = reads O n S in
            let z = eq-eqb (done S).0.status 0 (sym (entry-is S).0 ∙ h) in
            record {
              shows = ap (of_buffers (buffer_bytes * place_of f p)) (entry-is S).1 ∙ sym (r.part ∙ rw ((done S).1, of_req, z));
              status = sym (ap reply_status r.reply ∙ rw ((done S).1, look_req, z));
            }
