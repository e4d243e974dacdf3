mod Friendships
mod Still
