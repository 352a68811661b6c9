-- The version of the interface that a host links, which host/pirrozketa.h has as PIRROZKETA_VERSION.
-- Assumes nothing.
use Rattle.std.specs.Prelude.{ℕ, ◌+◌, ◌*◌}

abbrev pub version_major : ℕ
version_major = 8

abbrev pub version_minor : ℕ
version_minor = 2

abbrev pub version : ℕ
version = 256 * version_major + version_minor
