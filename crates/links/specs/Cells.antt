-- What the steps on the cells of a line write.
use Rattle.std.specs.Prelude.{◌≡◌, ℕ, ◌+◌, ◌-◌, cond, List, map, length, nat_lt, slice_index, slice_index_or, slice_set}
use Rattle.links.specs.declared.cells.Link.{Link}
use Rattle.links.specs.declared.cells.Cells.{Cells}

abbrev pub link_at : List Link → ℕ → Link
link_at ls p = slice_index_or ls p (record { prev = 0; next = 0 })

-- the links one way, and the other
abbrev pub nexts : Cells → List ℕ
nexts c = map (λ l. l.next) c.links

abbrev pub prevs : Cells → List ℕ
prevs c = map (λ l. l.prev) c.links

-- how long the arrays are
abbrev pub Sized : Cells → Type 0
Sized c = (length c.links ≡ 517) × (length c.home ≡ 512) × (length c.lens ≡ 4)

-- one half of a link is written
abbrev pub set_next : List Link → ℕ → ℕ → List Link
set_next ls p q = slice_set ls p (record { prev = (link_at ls p).prev; next = q })

abbrev pub set_prev : List Link → ℕ → ℕ → List Link
set_prev ls p q = slice_set ls p (record { prev = q; next = (link_at ls p).next })

-- the node's neighbours are tied to each other, and it is in no list
abbrev pub cut : Cells → ℕ → Cells
cut c p =
    record {
      links = set_prev (set_next c.links (link_at c.links p).prev (link_at c.links p).next) (link_at c.links p).next (link_at c.links p).prev;
      home = slice_set c.home p 4;
      lens = slice_set c.lens (slice_index c.home p) (slice_index c.lens (slice_index c.home p) - 1);
    }

abbrev pub detached : Cells → ℕ → Cells
detached c p = cond (nat_lt (slice_index c.home p) 4) (cut c p) c

-- the node stands between these two, in list k
abbrev pub attached : Cells → ℕ → Link → ℕ → Cells
attached c p l k =
    record {
      links = set_prev (slice_set (set_next c.links l.prev p) p l) l.next p;
      home = slice_set c.home p k;
      lens = slice_set c.lens k (slice_index c.lens k + 1);
    }
