-- What a cache's entries say.
use Rattle.std.specs.Prelude.{List, map, reverse}
use Rattle.lru.specs.LruCache.{LruCache}
use Rattle.mesh_base.specs.declared.pair.Name.{Name}

-- the names, the oldest first: the entries have the one put last first, since none is moved when it is heard again
abbrev pub names_of : LruCache Name Unit → List Name
names_of c = reverse (map (λ e. e.0) c.entries)
