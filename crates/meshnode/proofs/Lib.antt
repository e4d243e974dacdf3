mod Doing
mod Answering
