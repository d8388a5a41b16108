-- The row of a place is written, and the requests stay as they were: an accessor changes beside its request, enters, or leaves.
use Prim.Native.Nat.{ℕ, ◌+◌, ◌/◌, ◌%◌, ◌<◌}
use mathlib.Core.Path.{◌≡◌, refl, sym, ap, ap₂, subst, ◌∙◌}
use mathlib.Core.List.{List, []}
use mathlib.Core.Option.{none, some}
use native.Mathlib.Omega.{arith}
use native.Mathlib.Decide.{ℕ_discrete}
use lib.ListN.{length, get_or, set, length-set}
use lib.Seq.{get_or-set_same, get_or-set_other}
use Rattle.segment.specs.declared.PlaceRow.{PlaceRow}
use Rattle.segment.specs.Layout.{place_fields, place_spare, place_width, place_row_at, row_count, file_row, place_row}
use Rattle.segment.specs.Table.{nth, fill}
use Rattle.segment.specs.Fields.{place_words, spared}
use Rattle.segment.proofs.Fields.{length-spared}
use Rattle.segment.proofs.Rows.{row_at, fill-zeros}
use Rattle.segment.proofs.Apart.{row-place, words-place}
use Rattle.ports.proofs.Contents.{fill-boxes}
use Rattle.rules.specs.Limits.{files, places}
use Rattle.rules.specs.State.{idle, Acc, Built, built}
use Rattle.rules.specs.Requests.{acc_at, with_accs, alter_acc}
use Rattle.rules.specs.Open.{first_free, enter}
use Rattle.rules.specs.Close.{vacate}
use Rattle.rules.specs.Desk.{Desk, file_of, with_file}
use Rattle.rules.specs.Allocation.{Alloc, place_of, allot_all}
use Rattle.laws.specs.Changes.{Mild}
use Rattle.laws.specs.Midst as laws
use Rattle.laws.proofs.Happenings.{open-below, matches-alike}
use Rattle.laws.proofs.Accessors.{length-alter, get_or-alter-same, get_or-alter-other, enter-beside, vacate-beside}
use Rattle.laws.proofs.EightFiles.{file-other, file-same}
use Rattle.memory.specs.Memories.{Memories, memories}
use Rattle.memory.specs.Image.{acc_of, place_acc, file_words, row_of, rq_of, wq_of, lists_of, boxes_of}
use Rattle.laws.specs.Outstanding.{req_of}
use Rattle.laws.specs.EightFiles.{EightFiles}
use Rattle.memory.specs.Image as image
use Rattle.ring.specs.Ring.{ring_of}
use Rattle.memory.proofs.Image.{row_of-file, row_of-place, row_of-acc, spare-zero, each_row}
use Rattle.midst.specs.declared.File as hand
use Rattle.midst.specs.File.{in_hand}
use Rattle.midst.specs.Seg.{Seg}
use Rattle.midst.specs.Mid.{Start, Mid}
use Rattle.midst.proofs.Alike.{SameLists, lists-alike, boxes-alike}

-- c is b with another accessor at p, whose request is the same
pub record Beside (p : ℕ) (b c : Built) : Type 0 where
  pub geo : c.geo ≡ b.geo
  pub store : c.store ≡ b.store
  pub reads : c.rq ≡ b.rq
  pub writes : c.wq ≡ b.wq
  pub timers : c.timers ≡ b.timers
  pub past : c.past ≡ b.past
  pub others : (y : ℕ) → (y ≡ p → ⊥) → acc_at c y ≡ acc_at b y
  pub request : req_of (acc_at c p) ≡ req_of (acc_at b p)
  pub many : length c.accs ≡ length b.accs
  pub buffers : c.buffers ≡ b.buffers

module _ {p : ℕ} {b c : Built} (B : Beside p b c) where
  pub beside-reqs : (y : ℕ) → req_of (acc_at c y) ≡ req_of (acc_at b y)
  beside-reqs y = go (ℕ_discrete y p)
    where
      go : Dec (y ≡ p) → req_of (acc_at c y) ≡ req_of (acc_at b y)
      go (yes e) = rw e B.request
      go (no n) = ap req_of (B.others y n)

  beside-alike : SameLists (built b) (built c)
  unfolding acc_of rq_of wq_of
  beside-alike = record { reads = sym B.reads; writes = sym B.writes; reqs = λ y. sym (beside-reqs y) }

  beside-mid : (f : ℕ) (s : Alloc) → laws.Mid f s b → laws.Mid f s c
  unfolding acc_at
  beside-mid f s m = record {
    matches = rw (B.past, B.timers) (matches-alike f s _ b.accs c.accs b.timers B.many beside-reqs m.matches);
    fed = rw B.past m.fed;
  }

  beside-hand : in_hand b ≡ in_hand c
  beside-hand = ap₂ {C = hand.File} (λ g s. record { words = g.words; ring = ring_of g s }) (sym B.geo) (sym B.store)

-- the row of place i written, the lists as they were
seg-row : (xs : List ℕ) (d d' : Desk) (t t' : Alloc) (k i : ℕ) (r : List ℕ) → Seg xs d t k → t' ≡ t → lists_of d t ≡ lists_of d' t → boxes_of d t ≡ boxes_of d' t
    → place_row i < row_count → length r ≡ place_width → r ≡ row_of d' (place_row i) → ((j : ℕ) → j < row_count → (j ≡ k → ⊥) → (j ≡ place_row i → ⊥) → row_of d j ≡ row_of d' j)
    → Seg (fill xs (place_row_at i) r) d' t' k
seg-row xs d d' t t' k i r S e el em h n er es =
    rw e (record {
      rows = set S.rows (place_row i) r;
      boxes = rw (← el, ← em) (rw (row-place i).0 at (fill-boxes S.boxes (place_row i) r h (n ∙ sym (row-place i).1)));
      same = λ j g u. go j g u (ℕ_discrete j (place_row i));
    })
  where
    go : (j : ℕ) → j < row_count → (j ≡ k → ⊥) → Dec (j ≡ place_row i) → get_or (set S.rows (place_row i) r) j [] ≡ row_of d' j
    go j g u (yes v) = rw v (get_or-set_same S.rows (place_row i) r [] (omega (arith, S.boxes.rowed)) ∙ er)
    go j g u (no v) = get_or-set_other S.rows (place_row i) j r [] v ∙ S.same j g u ∙ es j g u v

-- the fields of a place alone are written: the spare words are zero already
spare-stands : (xs : List ℕ) (d : Desk) (t : Alloc) (k i : ℕ) → Seg xs d t k → place_row i < row_count → (place_row i ≡ k → ⊥) → (j : ℕ) → j < place_spare → nth xs (place_row_at i + place_fields + j) ≡ 0
spare-stands xs d t k i S h n j g =
    let e : place_row_at i + place_fields + j ≡ place_row_at i + (place_fields + j) = omega arith in
    ap (nth xs) e ∙ sym (row_at xs (place_row_at i) place_width (place_fields + j) (omega arith))
    ∙ ap (λ (l : List ℕ). get_or l (place_fields + j) 0) (sym (words-place xs i) ∙ S.boxes.rows (place_row i) h ∙ S.same (place_row i) h n ∙ row_of-place d i)
    ∙ spare-zero (place_acc d i) j g

fields-row : (xs : List ℕ) (d : Desk) (t : Alloc) (k i : ℕ) (r : PlaceRow) → Seg xs d t k → place_row i < row_count → (place_row i ≡ k → ⊥)
    → fill xs (place_row_at i) (spared (place_words r)) ≡ fill xs (place_row_at i) (place_words r)
unfolding place_words
fields-row xs d t k i r S h n = fill-zeros xs (place_row_at i) (place_words r) place_spare (spare-stands xs d t k i S h n)

-- all rows but those of file f and of its place p
rows-beside : (d : Desk) (f p : ℕ) (b c : Built) → EightFiles d → f < files → ((y : ℕ) → (y ≡ p → ⊥) → acc_at c y ≡ acc_at b y)
    → (i : ℕ) → i < row_count → (i ≡ file_row f → ⊥) → (i ≡ place_row (place_of f p) → ⊥) → row_of (with_file d f (built b)) i ≡ row_of (with_file d f (built c)) i
rows-beside d f p b c n h e =
    each_row (λ i. (i ≡ file_row f → ⊥) → (i ≡ place_row (place_of f p) → ⊥) → row_of (with_file d f (built b)) i ≡ row_of (with_file d f (built c)) i)
    (λ g k n _. row_of-file (with_file d f (built b)) g k ∙ ap file_words (file-other d f g _ n ∙ sym (file-other d f g _ n)) ∙ sym (row_of-file (with_file d f (built c)) g k))
    (λ i k n m. row_of-place (with_file d f (built b)) i ∙ ap image.place_words (accs i m) ∙ sym (row_of-place (with_file d f (built c)) i))
  where
    accs : (i : ℕ) → (place_row i ≡ place_row (place_of f p) → ⊥) → place_acc (with_file d f (built b)) i ≡ place_acc (with_file d f (built c)) i
    accs i m = unfold place_acc in go (ℕ_discrete (i / places) f)
      where
        go : Dec (i / places ≡ f) → acc_of (file_of (with_file d f (built b)) (i / places)) (i % places) ≡ acc_of (file_of (with_file d f (built c)) (i / places)) (i % places)
        go (yes u) = rw (u, file-same d f (built b) n h, file-same d f (built c) n h) (unfold acc_of in sym (e (i % places) (λ v. m (unfold place_of in omega arith))))
        go (no u) = rw (file-other d f (i / places) (built b) u, file-other d f (i / places) (built c) u)

pub place-row-below : (f p : ℕ) → f < files → p < places → place_row (place_of f p) < row_count
unfolding place_of
place-row-below f p h k = omega arith

module _ {I J : Built → Type 0} {f : ℕ} {o : Start} {ms : Memories} {x : hand.File} {b : Built} (M : Mid I f o ms x b) where
  pub mid-accs : (p : ℕ) (c : Built) (r : PlaceRow) → p < places → Beside p b c → J c → spared (place_words r) ≡ image.place_words (acc_at c p)
      → Mid J f o (memories (fill ms.segment (place_row_at (place_of f p)) (place_words r)) ms.blocks ms.buffers) x c
  unfolding acc_at acc_of
  mid-accs p c r hp B good e = record {
    file = M.file;
    eight = M.eight;
    good = good;
    allots = beside-mid B f o.alloc M.allots;
    segment = subst (λ (ys : List ℕ). Seg ys (with_file o.desk f (built c)) (allot_all f c.past o.alloc) (file_row f))
        (fields-row ms.segment _ _ (file_row f) (place_of f p) r M.segment (place-row-below f p M.file hp) (λ u. unfold place_of in omega (arith, u, M.file)))
        (seg-row ms.segment (with_file o.desk f (built b)) (with_file o.desk f (built c)) (allot_all f b.past o.alloc) _ (file_row f) (place_of f p) (spared (place_words r)) M.segment
        (ap (λ hs. allot_all f hs o.alloc) B.past)
        (lists-alike o.desk f _ _ (beside-alike B) _) (boxes-alike o.desk f _ _ (beside-alike B) _)
        (place-row-below f p M.file hp) (length-spared r)
        (e ∙ sym (row_of-acc (with_file o.desk f (built c)) f p hp ∙ ap (λ z. image.place_words (acc_of z p)) (file-same o.desk f (built c) M.eight M.file)))
        (rows-beside o.desk f p b c M.eight M.file B.others));
    row = M.row ∙ beside-hand B;
    share = M.share ∙ ap (λ s. s.share) (sym B.store);
    buffer = M.buffer ∙ sym B.buffers;
    blocks-size = M.blocks-size;
    buffers-size = M.buffers-size;
    apart = record { shares = M.apart.shares; others = M.apart.others };
  }

  -- the accessor at p, changed beside its request
  pub mid-mild : (p : ℕ) (g : Acc → Acc) (a : Acc) (r : PlaceRow) → Mild g → acc_at b p ≡ some a → J (alter_acc p g b) → spared (place_words r) ≡ image.place_words (some (g a))
      → Mid J f o (memories (fill ms.segment (place_row_at (place_of f p)) (place_words r)) ms.blocks ms.buffers) x (alter_acc p g b)
  unfolding alter_acc with_accs acc_at Mild
  mid-mild p g a r m e good h =
      mid-accs p (alter_acc p g b) r (open-below b.accs p a M.allots.matches.agrees.eight e) (record {
        geo = refl;
        store = refl;
        reads = refl;
        writes = refl;
        timers = refl;
        past = refl;
        others = λ y n. get_or-alter-other g b.accs p y (λ u. n (sym u));
        request = unfold req_of in ap req_of (get_or-alter-same g a b.accs p e) ∙ (m a).3 ∙ sym (ap req_of e);
        many = length-alter g b.accs p;
        buffers = refl;
      }) good (h ∙ sym (ap image.place_words (get_or-alter-same g a b.accs p e)))

  -- one enters
  pub mid-enter : (a : Acc) (r : PlaceRow) → first_free b.accs < places → a.req ≡ idle → J (enter a b) → spared (place_words r) ≡ image.place_words (some a)
      → Mid J f o (memories (fill ms.segment (place_row_at (place_of f (first_free b.accs))) (place_words r)) ms.blocks ms.buffers) x (enter a b)
  unfolding enter with_accs acc_at
  mid-enter a r hp i good h =
      mid-accs (first_free b.accs) (enter a b) r hp (record {
        geo = refl;
        store = refl;
        reads = refl;
        writes = refl;
        timers = refl;
        past = refl;
        others = λ y n. get_or-set_other b.accs (first_free b.accs) y (some a) none n;
        request = enter-beside (λ u v. req_of u ≡ req_of v) (λ _. refl) a b.accs (unfold req_of in i) (first_free b.accs);
        many = length-set b.accs (first_free b.accs) (some a);
        buffers = refl;
      }) good (h ∙ sym (ap image.place_words (get_or-set_same b.accs (first_free b.accs) (some a) none (omega (arith, M.allots.matches.agrees.eight)))))

  -- one with no request leaves
  pub mid-vacate : (p : ℕ) (a : Acc) (r : PlaceRow) → acc_at b p ≡ some a → a.req ≡ idle → J (vacate p b) → spared (place_words r) ≡ image.place_words none
      → Mid J f o (memories (fill ms.segment (place_row_at (place_of f p)) (place_words r)) ms.blocks ms.buffers) x (vacate p b)
  unfolding vacate with_accs acc_at
  mid-vacate p a r e i good h =
      let hp : p < places = open-below b.accs p a M.allots.matches.agrees.eight e in
      mid-accs p (vacate p b) r hp (record {
        geo = refl;
        store = refl;
        reads = refl;
        writes = refl;
        timers = refl;
        past = refl;
        others = λ y n. get_or-set_other b.accs p y none none n;
        request = vacate-beside (λ u v. req_of u ≡ req_of v) (λ _. refl) b.accs p (unfold req_of in sym (ap req_of e ∙ i)) p;
        many = length-set b.accs p none;
        buffers = refl;
      }) good (h ∙ sym (ap image.place_words (get_or-set_same b.accs p none none (omega (arith, M.allots.matches.agrees.eight)))))
